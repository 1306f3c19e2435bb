-- A text that is read item by item.
use Rattle.std.proofs.Common.{ℕ, ◌≡◌, ◌≢◌, ◌<◌, List, [], ◌∷◌, ◌++◌, length, All, flat_map, refl, sym, ap, ◌∙◌, arith, append_assoc}
use Rattle.std.proofs.lemmas.Grind.{flat_map-append}
use Rattle.std.proofs.lemmas.List.{append-nil, nil_from_length}
use Rattle.std.proofs.lemmas.List.Elements.{All-nil, All-head, All-tail, All-push}

module _ {X : Type 0} (f : X → List ℕ) (Fit : X → Type 0) where
  -- what was read of the text, and what is left of it; any reading of the whole goes on with a reading of that
  pub record WalkSoFar (whole : List ℕ) (read : List X) (left : List ℕ) : Type 0 where
    pub fits : All Fit read
    pub parts : whole ≡ flat_map f read ++ left
    pub only : (xs : List X) → All Fit xs → whole ≡ flat_map f xs → (rest : List X) × All Fit rest × (left ≡ flat_map f rest)

  pub walk_begun : (whole : List ℕ) → WalkSoFar whole [] whole
  walk_begun whole = record { fits = All-nil Fit; parts = refl; only = λ xs fits same. (xs, fits, same) }

  next_of : (left next : List ℕ) → 0 < length left → ((y : X) (more : List X) → Fit y → All Fit more → left ≡ f y ++ flat_map f more → next ≡ flat_map f more) → (rest : List X) → All Fit rest → left ≡ flat_map f rest → (others : List X) × All Fit others × (next ≡ flat_map f others)
  next_of left next some cut [] fits same = absurd (omega (arith, ap length same))
  next_of left next some cut (y ∷ more) fits same =
      let tail = All-tail Fit y more fits in
      (more, tail, cut y more (All-head Fit y more fits) tail same)

  pub walk_more : (whole : List ℕ) (read : List X) (left : List ℕ) → WalkSoFar whole read left → (x : X) (next : List ℕ) → Fit x → left ≡ f x ++ next → 0 < length left → ((y : X) (more : List X) → Fit y → All Fit more → left ≡ f y ++ flat_map f more → next ≡ flat_map f more) → WalkSoFar whole (read ++ x ∷ []) next
  walk_more whole read left walk x next fit here some cut = record {
    fits = All-push Fit read x walk.fits fit;
    parts = walk.parts ∙ ap (λ l. flat_map f read ++ l) here ∙ sym (append_assoc (flat_map f read) (f x) next) ∙ ap (λ l. l ++ next) (ap (λ l. flat_map f read ++ l) (sym (append-nil (f x))) ∙ sym (flat_map-append f read (x ∷ [])));
    only = λ xs fits same.
        let rest = walk.only xs fits same in
        next_of left next some cut rest.0 rest.1 rest.2;
  }

  none_of : (left : List ℕ) → 0 < length left → ((y : X) (more : List X) → Fit y → All Fit more → left ≢ f y ++ flat_map f more) → (rest : List X) → All Fit rest → left ≢ flat_map f rest
  none_of left some none [] fits same = absurd (omega (arith, ap length same))
  none_of left some none (y ∷ more) fits same = none y more (All-head Fit y more fits) (All-tail Fit y more fits) same

  pub walk_none : (whole : List ℕ) (read : List X) (left : List ℕ) → WalkSoFar whole read left → 0 < length left → ((y : X) (more : List X) → Fit y → All Fit more → left ≢ f y ++ flat_map f more) → (xs : List X) → All Fit xs → whole ≢ flat_map f xs
  walk_none whole read left walk some none xs fits same =
      let rest = walk.only xs fits same in
      none_of left some none rest.0 rest.1 rest.2

  pub walk_done : (whole : List ℕ) (read : List X) (left : List ℕ) → WalkSoFar whole read left → length left ≡ 0 → whole ≡ flat_map f read
  walk_done whole read left walk none = walk.parts ∙ ap (λ l. flat_map f read ++ l) (nil_from_length left none) ∙ append-nil (flat_map f read)
