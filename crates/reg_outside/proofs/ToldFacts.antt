use Rattle.std.specs.Prelude.{◌≡◌, ℕ, ◌+◌, List, [], ◌++◌, Option, Some, None, take, drop, refl}
use Rattle.std.proofs.Common.{append_assoc, append-nil, ap, sym, ◌∙◌}
use Rattle.std.proofs.Math.Seq.{take-add}
use Rattle.reg_outside.specs.Told.{with_more, with_before}

pub with_more-nil : {A : Type 0} (told : Option (List A)) → with_more told [] ≡ told
with_more-nil None = refl
with_more-nil (Some items) = ap Some (append-nil items)

pub with_more-with_more : {A : Type 0} (told : Option (List A)) (a b : List A) → with_more (with_more told a) b ≡ with_more told (a ++ b)
with_more-with_more None a b = refl
with_more-with_more (Some items) a b = ap Some (append_assoc items a b)

pub with_before-nil : {A : Type 0} (told : Option (List A)) → with_before [] told ≡ told
with_before-nil None = refl
with_before-nil (Some items) = refl

pub with_before-with_before : {A : Type 0} (a b : List A) (told : Option (List A)) → with_before a (with_before b told) ≡ with_before (a ++ b) told
with_before-with_before a b None = refl
with_before-with_before a b (Some items) = ap Some (sym (append_assoc a b items))

-- the first of a text, and then the next of the rest
pub with_more-take : {A : Type 0} (told : Option (List A)) (m n : ℕ) (text : List A) → with_more (with_more told (take m text)) (take n (drop m text)) ≡ with_more told (take (m + n) text)
with_more-take None m n text = refl
with_more-take (Some items) m n text = ap Some (append_assoc items (take m text) (take n (drop m text)) ∙ ap (λ xs. items ++ xs) (sym (take-add m n text)))
