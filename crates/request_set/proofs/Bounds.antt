-- The bounds of requests, one request after another.
use Rattle.std.proofs.Common.{◌≡◌, ℕ, ◌<◌, ◌≤◌, ◌^◌, Bool, true, false, ◌&&◌, leb, max, min, List, [], ◌∷◌, Option, Some, None, refl, ap, ◌∙◌, arith, map}
use Rattle.std.specs.Prelude.{fold, unwrap_or, All}
use Rattle.std.proofs.lemmas.List.Elements.{All-head}
use Rattle.std.proofs.lemmas.Bool.Decides.{nat_tests}
use Rattle.board.specs.Rail.{least, lesser, is_within}
use Rattle.request_set.specs.declared.row.Row.{Row}
use Rattle.request_set.specs.Requests.{Asking, meets, meets_all, greatest_of, least_of}
use Rattle.request_set.specs.Inside.{asking_of, any, narrowed}

abbrev lows : List Asking → List ℕ
lows list = map (λ asking. asking.least) list

abbrev highs : List Asking → List ℕ
highs list = map (λ asking. asking.greatest) list

lesser-Some : (n m : ℕ) → lesser n (Some m) ≡ min n m
lesser-Some n m = grind (arith, nat_tests)

min-lesser : (hi n : ℕ) (o : Option ℕ) → hi ≤ 4294967295 → min (min hi n) (unwrap_or o 4294967295) ≡ min hi (lesser n o)
min-lesser hi n None small = omega arith
min-lesser hi n (Some m) small = rw (lesser-Some n m) (omega arith)

-- what the rows leave of some bounds
pub fold-narrowed : (lo hi : ℕ) (rows : List Row) → hi ≤ 4294967295
    → fold narrowed (lo, hi) rows ≡ (max lo (greatest_of (lows (map asking_of rows))), min hi (least_of (highs (map asking_of rows))))
fold-narrowed lo hi [] small =
    let low : lo ≡ max lo 0 = omega arith in
    let high : hi ≡ min hi 4294967295 = omega arith in
    ap (λ l. (l, hi)) low ∙ ap (λ h. (max lo 0, h)) high
fold-narrowed lo hi (row ∷ rows) small =
    let rest = map asking_of rows in
    let low : max (max lo row.least) (greatest_of (lows rest)) ≡ max lo (max row.least (greatest_of (lows rest))) = omega arith in
    let high = min-lesser hi row.greatest (least (highs rest)) small in
    fold-narrowed (max lo row.least) (min hi row.greatest) rows (omega arith)
    ∙ ap (λ l. (l, min (min hi row.greatest) (least_of (highs rest)))) low
    ∙ ap (λ h. (max lo (max row.least (greatest_of (lows rest))), h)) high

and_four : (a b c d : Bool) → ((a && c) && (b && d)) ≡ ((a && b) && (c && d))
and_four true true c d = refl
and_four true false true d = refl
and_four true false false d = refl
and_four false b c d = refl

below-max : (a b uv : ℕ) → leb (max a b) uv ≡ (leb a uv && leb b uv)
below-max a b uv = grind (arith, nat_tests)

above-lesser : (n uv : ℕ) (o : Option ℕ) → uv ≤ 4294967295 → leb uv (lesser n o) ≡ (leb uv n && leb uv (unwrap_or o 4294967295))
above-lesser n uv None small = grind (arith, nat_tests)
above-lesser n uv (Some m) small = grind (arith, nat_tests)

-- a value of 32 bits lies within the bounds exactly where it meets every request
pub within-bounds : (list : List Asking) (uv : ℕ) → uv < 2 ^ 32 → is_within (Some (greatest_of (lows list), least_of (highs list))) uv ≡ meets_all list uv
within-bounds [] uv small = grind (arith, nat_tests)
within-bounds (asking ∷ list) uv small =
    ap (λ b. b && leb uv (lesser asking.greatest (least (highs list)))) (below-max asking.least (greatest_of (lows list)) uv)
    ∙ ap (λ b. (leb asking.least uv && leb (greatest_of (lows list)) uv) && b) (above-lesser asking.greatest uv (least (highs list)) (omega arith))
    ∙ and_four (leb asking.least uv) (leb uv asking.greatest) (leb (greatest_of (lows list)) uv) (leb uv (least_of (highs list)))
    ∙ ap (λ b. meets uv asking && b) (within-bounds list uv small)

-- no bound of requests is above 32 bits
least-fits : (n : ℕ) (o : Option ℕ) → n < 2 ^ 32 → min 4294967295 (lesser n o) ≡ lesser n o
least-fits n None small = omega arith
least-fits n (Some m) small = rw (lesser-Some n m) (omega arith)

highs-fit : (list : List Asking) → All (λ asking. asking.greatest < 2 ^ 32) list → min 4294967295 (least_of (highs list)) ≡ least_of (highs list)
highs-fit [] fit = refl
highs-fit (asking ∷ list) fit = least-fits asking.greatest (least (highs list)) (All-head (λ (a : Asking). a.greatest < 2 ^ 32) asking list fit)

-- the bounds of the rows are those of what they ask
pub bounds-of_rows : (rows : List Row) (list : List Asking) (bounds : ℕ × ℕ) → bounds ≡ fold narrowed any rows → map asking_of rows ≡ list → All (λ asking. asking.greatest < 2 ^ 32) list
    → bounds ≡ (greatest_of (lows list), least_of (highs list))
bounds-of_rows rows list bounds is same fit =
    let low : max 0 (greatest_of (lows list)) ≡ greatest_of (lows list) = omega arith in
    is ∙ fold-narrowed 0 4294967295 rows (omega arith)
    ∙ ap (λ asked. (max 0 (greatest_of (lows asked)), min 4294967295 (least_of (highs asked)))) same
    ∙ ap (λ l. (l, min 4294967295 (least_of (highs list)))) low
    ∙ ap (λ h. (greatest_of (lows list), h)) (highs-fit list fit)
