-- References by numbers in place of labels, one piece more.
use Rattle.std.proofs.Common.{◌≡◌, ℕ, ◌+◌, ◌<◌, List, [], ◌∷◌, ◌++◌, Option, Some, None, length, map, take, drop, get_or, sym, ap, ◌∙◌}
use Rattle.std.specs.List.{flat_map}
use Rattle.std.specs.Option.{option_map, option_or}
use Rattle.std.proofs.lemmas.List.{append-nil, map-append, take_more, take-append-drop}
use Rattle.std.proofs.lemmas.List.Concat.{flat_map-append}
use Rattle.std.proofs.lemmas.List.Folds.{find-append}
use Rattle.std.specs.Prelude.{not, is_some}
use Rattle.dts_tree.specs.declared.fault.TreeFault.TheVariants.{NoLabel}
use Rattle.dts_tree.specs.declared.piece.Piece.{Piece}
use Rattle.dts_tree.specs.declared.piece.Place.{Place}
use Rattle.dts_tree.specs.Setting.{Label}
use Rattle.dts_tree.specs.Content.{node_of}
use Rattle.dts_tree.specs.Inside.Pieces.{reference_in, label_at}
use Rattle.dts_tree.specs.Inside.Stored.{labels_kept}
use Rattle.dts_tree.specs.Inside.Numbered.{first_unknown}

module _ (text : List ℕ) (labels : List ((ℕ × List ℕ) × ℕ)) where
  unknown-append : (xs ys : List (Piece Place)) → first_unknown labels (labels_kept text (xs ++ ys)) ≡ option_or (first_unknown labels (labels_kept text xs)) (first_unknown labels (labels_kept text ys))
  unknown-append xs ys =
      ap (λ rs. first_unknown labels (map (label_at text) rs)) (flat_map-append reference_in xs ys)
      ∙ ap (first_unknown labels) (map-append (label_at text) (flat_map reference_in xs) (flat_map reference_in ys))
      ∙ find-append (λ l. not (is_some (node_of labels l.name))) (labels_kept text xs) (labels_kept text ys)

  unknown-one : (p : Piece Place) → first_unknown labels (labels_kept text (p ∷ [])) ≡ first_unknown labels (map (label_at text) (reference_in p))
  unknown-one p = ap (λ rs. first_unknown labels (map (label_at text) rs)) (append-nil (reference_in p))

  -- one piece more without an unknown label in front of it
  unknown_more : (ps : List (Piece Place)) (i : ℕ) (d : Piece Place) → i < length ps → first_unknown labels (labels_kept text (take i ps)) ≡ None → first_unknown labels (labels_kept text (take (i + 1) ps)) ≡ first_unknown labels (map (label_at text) (reference_in (get_or ps i d)))
  unknown_more ps i d inside none =
      ap (λ xs. first_unknown labels (labels_kept text xs)) (take_more ps i d inside)
      ∙ unknown-append (take i ps) (get_or ps i d ∷ [])
      ∙ ap (λ o. option_or o (first_unknown labels (labels_kept text (get_or ps i d ∷ [])))) none
      ∙ unknown-one (get_or ps i d)

  -- no unknown label in one piece more
  pub known_more : (ps : List (Piece Place)) (i : ℕ) (d : Piece Place) → i < length ps → first_unknown labels (labels_kept text (take i ps)) ≡ None → first_unknown labels (map (label_at text) (reference_in (get_or ps i d))) ≡ None → first_unknown labels (labels_kept text (take (i + 1) ps)) ≡ None
  known_more ps i d inside none one = unknown_more ps i d inside none ∙ one

  fault_first : (o rest : Option Label) (at : ℕ) → option_map (λ l. l.at) o ≡ Some at → option_map (λ l. NoLabel l.at) (option_or o rest) ≡ Some (NoLabel at)
  fault_first None rest at is = absurd (cc)
  fault_first (Some l) rest at is = let same : l.at ≡ at = cc in ap (λ k. Some (NoLabel k)) same

  -- the label of this piece is the first that is unknown
  pub fault_at : (ps : List (Piece Place)) (i : ℕ) (d : Piece Place) (at : ℕ) → i < length ps → first_unknown labels (labels_kept text (take i ps)) ≡ None → option_map (λ l. l.at) (first_unknown labels (map (label_at text) (reference_in (get_or ps i d)))) ≡ Some at → option_map (λ l. NoLabel l.at) (first_unknown labels (labels_kept text ps)) ≡ Some (NoLabel at)
  fault_at ps i d at inside none is =
      let front = first_unknown labels (labels_kept text (take (i + 1) ps)) in
      let rest = first_unknown labels (labels_kept text (drop (i + 1) ps)) in
      ap (λ xs. option_map (λ l. NoLabel l.at) (first_unknown labels (labels_kept text xs))) (sym (take-append-drop (i + 1) ps))
      ∙ ap (option_map (λ l. NoLabel l.at)) (unknown-append (take (i + 1) ps) (drop (i + 1) ps))
      ∙ fault_first front rest at (ap (option_map (λ l. l.at)) (unknown_more ps i d inside none) ∙ is)
