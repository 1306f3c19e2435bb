-- What is seen under some locks of a board, worked out by hand: a supply, its child and a rail beside them.
use Rattle.std.proofs.Common.{◌≡◌, ◌≢◌, ◌⊎◌, ℕ, zero, suc, ◌<◌, ◌==◌, true, false, List, [], ◌∷◌, Some, None, refl, sym, ap, ◌∙◌, subst, inl, inr, arith, length, replicate, slice_get, Contains}
use Rattle.std.specs.Prelude.{codes, if◌then◌else◌}
use Rattle.std.proofs.lemmas.Bool.{false≢true}
use Rattle.std.proofs.lemmas.Option.{same_Some}
use Rattle.chip_regs.specs.Width.{chip_registers}
use Rattle.chip_regs.specs.declared.field.Field.{Field}
use Rattle.chip_regs.specs.Field.{SharesBit}
use Rattle.chip_regs.specs.Registers.{IsImage, CanPut, byte_of, with_byte, field_of, with_field}
use Rattle.chip_regs.proofs.Image.{IsImage-replicate, IsImage-with_byte, length-with_byte}
use Rattle.chip_regs.proofs.Fields.{field_of-with_field_apart}
use Rattle.board_graph.specs.Graph.{AreCoupled}
use Rattle.board_graph.specs.Sets.{IsLinked}
use Rattle.board.specs.declared.board.Board.{Board}
use Rattle.board.specs.declared.desc.Desc.{Desc}
use Rattle.board.specs.declared.part.Part.{Part}
use Rattle.board.specs.declared.part.Part.TheVariants.{Selector, Enable, ModePart, SuspendEnable, SuspendSelector}
use Rattle.board.specs.declared.rail.Rail.{Rail}
use Rattle.board.specs.Desc.{described_field}
use Rattle.board.specs.Rail.{uv, is_on, IsAllowed}
use Rattle.board.proofs.Boards.{fixed, rail_of, coupled_board}
use Rattle.rail_law.specs.Law.{StandAllowed, HaveSuppliesOn, Law}
use Rattle.rail_state.specs.Sight.{IsGuarded, IsOwned, Look, KeepsLaw}
use Rattle.rail_state.proofs.Members.{first_or_behind}

-- rail k is switched by a bit of register k
abbrev switch : ℕ → Field
switch k = record { chip = 0; reg = k; mask = 1; shift = 0 }

abbrev switched : ℕ → ℕ → Desc
switched k uv = record (fixed uv) { enable = switch k }

abbrev supply : Rail
supply = rail_of (codes "vin") (switched 0 5000000) 5000000 5000000 None 0

abbrev child : Rail
child = rail_of (codes "vio") (switched 1 3300000) 3300000 3300000 (Some 0) 1

abbrev beside : Rail
beside = rail_of (codes "vusb") (switched 2 5000000) 5000000 5000000 None 2

abbrev three : Board
three = record {
  rails = supply ∷ child ∷ beside ∷ [];
  spread = 0 ∷ 0 ∷ 0 ∷ [];
  chips = 1;
  graph = record { supply = None ∷ Some 0 ∷ None ∷ []; group = 0 ∷ 1 ∷ 2 ∷ []; link = false ∷ false ∷ false ∷ [] };
  order = 0 ∷ 1 ∷ 2 ∷ [];
}

-- the members of short lists
abbrev has_first : (x : ℕ) (xs : List ℕ) → Contains (x ∷ xs) x
has_first x xs = (0, omega arith, refl)

abbrev has_second : (x y : ℕ) (xs : List ℕ) → Contains (x ∷ y ∷ xs) y
has_second x y xs = (1, omega arith, refl)

none : {P : Type 0} (y : ℕ) → Contains [] y → P
none y there = absurd (omega (arith, there.1))

only : (x y : ℕ) → Contains (x ∷ []) y → x ≡ y
only x y there = elim (first_or_behind x y [] there) [ inl same ↦ same | inr rest ↦ none y rest ]

either : (x z y : ℕ) → Contains (x ∷ z ∷ []) y → (x ≡ y) ⊎ (z ≡ y)
either x z y there = elim (first_or_behind x y (z ∷ []) there) [ inl same ↦ inl same | inr rest ↦ inr (only z y rest) ]

-- a rail is guarded by its own lock, its supply's, and those of its group
guarded_by_itself : IsGuarded three (2 ∷ 1 ∷ []) 1
guarded_by_itself = (1, has_second 2 1 [], has_second 0 1 [])

guarded_by_supply : IsGuarded three (0 ∷ []) 1
guarded_by_supply = (0, has_first 0 [], has_first 0 (1 ∷ []))

guarded_by_group : IsGuarded coupled_board (1 ∷ []) 0
guarded_by_group = (1, has_first 1 [], has_second 0 1 [])

not_by_child : ¬ IsGuarded three (1 ∷ []) 0
not_by_child guarded = let one = only 1 guarded.0 guarded.1 in let zero = only 0 guarded.0 guarded.2 in absurd (omega (arith, one, zero))

not_by_one_beside : ¬ IsGuarded three (2 ∷ []) 1
not_by_one_beside guarded =
    let two = only 2 guarded.0 guarded.1 in
    elim (either 0 1 guarded.0 guarded.2) [ inl is ↦ absurd (omega (arith, two, is)) | inr is ↦ absurd (omega (arith, two, is)) ]

not_by_none : ¬ IsGuarded three [] 0
not_by_none guarded = none guarded.0 guarded.1

no_rail_no_guard : ¬ IsGuarded three (3 ∷ []) 3
no_rail_no_guard guarded = none guarded.0 guarded.2

-- a rail is owned by all of them together
supply_owned : IsOwned three (0 ∷ []) 0
supply_owned i there = there

child_owned : IsOwned three (0 ∷ 1 ∷ []) 1
child_owned i there = there

not_without_supply : ¬ IsOwned three (1 ∷ []) 1
not_without_supply owned = let one = only 1 0 (owned 0 (has_first 0 (1 ∷ []))) in absurd (omega (arith, one))

not_by_supply : ¬ IsOwned three (0 ∷ []) 1
not_by_supply owned = let zero = only 0 1 (owned 1 (has_second 0 1 [])) in absurd (omega (arith, zero))

group_owned : IsOwned coupled_board (0 ∷ 1 ∷ []) 1
group_owned i there = there

not_without_group : ¬ IsOwned coupled_board (1 ∷ []) 1
not_without_group owned = let one = only 1 0 (owned 0 (has_first 0 (1 ∷ []))) in absurd (omega (arith, one))

-- the registers: all are off, the supply is on, and the child too
abbrev all_off : List (List ℕ)
all_off = replicate 1 (replicate chip_registers 0)

abbrev supply_on : List (List ℕ)
supply_on = with_byte all_off 0 0 1

abbrev both_on : List (List ℕ)
both_on = with_byte supply_on 0 1 1

one_chip : (regs : List (List ℕ)) → length regs ≡ three.chips → 0 < length regs
one_chip regs chips = omega (arith, chips)

supply_on_image : IsImage supply_on
supply_on_image = IsImage-with_byte all_off 0 0 1 (omega arith) (omega arith) (IsImage-replicate 1)

both_on_image : IsImage both_on
both_on_image = IsImage-with_byte supply_on 0 1 1 (omega (arith, length-with_byte all_off 0 0 1)) (omega arith) supply_on_image

both_on_chips : length both_on ≡ three.chips
both_on_chips = length-with_byte supply_on 0 1 1 ∙ length-with_byte all_off 0 0 1

-- a rail of this board has no field but its switch
switch_alone : (k uv : ℕ) (part : Part) (field : Field) → described_field part (switched k uv) ≡ Some field → switch k ≡ field
switch_alone k uv Selector field is = absurd (cc)
switch_alone k uv Enable field is = same_Some (switch k) field is
switch_alone k uv ModePart field is = absurd (cc)
switch_alone k uv SuspendEnable field is = absurd (cc)
switch_alone k uv SuspendSelector field is = absurd (cc)

-- what the registers look like, by the switches that are seen
look_by_switches : (rails : List ℕ) (on : ℕ → ℕ) (regs : List (List ℕ)) → ((k : ℕ) → IsGuarded three rails k → k < 3 → field_of regs (switch k) ≡ on k) → Look three rails (λ j part. on j) regs
look_by_switches rails on regs seen zero part field guarded is = ap (field_of regs) (sym (switch_alone 0 5000000 part field is)) ∙ seen 0 guarded (omega arith)
look_by_switches rails on regs seen (suc zero) part field guarded is = ap (field_of regs) (sym (switch_alone 1 3300000 part field is)) ∙ seen 1 guarded (omega arith)
look_by_switches rails on regs seen (suc (suc zero)) part field guarded is = ap (field_of regs) (sym (switch_alone 2 5000000 part field is)) ∙ seen 2 guarded (omega arith)
look_by_switches rails on regs seen (suc (suc (suc j))) part field guarded is = absurd (cc)

-- what is seen: nothing is on, the supply alone, and all
abbrev none_on : ℕ → Part → ℕ
none_on j part = 0

abbrev first_on : ℕ → Part → ℕ
first_on j part = if j == 0 then 1 else 0

abbrev all_on : ℕ → Part → ℕ
all_on j part = 1

-- what can't be seen may be otherwise: under the child's lock alone its supply isn't seen
looks_off : Look three (0 ∷ 1 ∷ []) none_on all_off
unfolding field_of byte_of
looks_off = look_by_switches (0 ∷ 1 ∷ []) (λ j. 0) all_off off where
  off : (k : ℕ) → IsGuarded three (0 ∷ 1 ∷ []) k → k < 3 → field_of all_off (switch k) ≡ 0
  off zero guarded small = refl
  off (suc zero) guarded small = refl
  off (suc (suc zero)) guarded small = refl
  off (suc (suc (suc k))) guarded small = absurd (omega (arith, small))

supply_unseen : Look three (1 ∷ []) first_on all_off
unfolding field_of byte_of
supply_unseen = look_by_switches (1 ∷ []) (λ j. if j == 0 then 1 else 0) all_off seen where
  seen : (k : ℕ) → IsGuarded three (1 ∷ []) k → k < 3 → field_of all_off (switch k) ≡ (if k == 0 then 1 else 0)
  seen zero guarded small = absurd (not_by_child guarded)
  seen (suc zero) guarded small = refl
  seen (suc (suc zero)) guarded small = refl
  seen (suc (suc (suc k))) guarded small = absurd (omega (arith, small))

looks_on : Look three (0 ∷ []) all_on both_on
unfolding field_of byte_of with_byte
looks_on = look_by_switches (0 ∷ []) (λ j. 1) both_on on where
  beside_unseen : ¬ IsGuarded three (0 ∷ []) 2
  beside_unseen guarded = let zero = only 0 guarded.0 guarded.1 in let two = only 2 guarded.0 guarded.2 in absurd (omega (arith, zero, two))

  on : (k : ℕ) → IsGuarded three (0 ∷ []) k → k < 3 → field_of both_on (switch k) ≡ 1
  on zero guarded small = refl
  on (suc zero) guarded small = refl
  on (suc (suc zero)) guarded small = absurd (beside_unseen guarded)
  on (suc (suc (suc k))) guarded small = absurd (omega (arith, small))

supply_seen : ¬ Look three (0 ∷ []) first_on all_off
unfolding field_of byte_of
supply_seen look = let on = look 0 Enable (switch 0) (0, has_first 0 [], has_first 0 []) refl in cc

child_seen : ¬ Look three (0 ∷ []) first_on both_on
unfolding field_of byte_of with_byte
child_seen look = let off = look 1 Enable (switch 1) guarded_by_supply refl in cc

-- on this board the law asks that the supply is on where the child is
lawful : (regs : List (List ℕ)) → (is_on child regs ≡ true → is_on supply regs ≡ true) → Law three regs
lawful regs needs = record { values = stand; spreads = λ i j group spread a b coupled. absurd (none_coupled i j coupled); supplies = supplied; dropouts = λ upper lower a b supplies linked. absurd (none_linked lower linked) } where
  stand : StandAllowed three regs
  stand zero a is = subst (λ (rail : Rail). IsAllowed rail (uv rail regs)) (same_Some supply a is) refl
  stand (suc zero) a is = subst (λ (rail : Rail). IsAllowed rail (uv rail regs)) (same_Some child a is) refl
  stand (suc (suc zero)) a is = subst (λ (rail : Rail). IsAllowed rail (uv rail regs)) (same_Some beside a is) refl
  stand (suc (suc (suc i))) a is = absurd (cc)

  group_is : (k group : ℕ) → slice_get three.graph.group k ≡ Some group → k ≡ group
  group_is zero group is = same_Some 0 group is
  group_is (suc zero) group is = same_Some 1 group is
  group_is (suc (suc zero)) group is = same_Some 2 group is
  group_is (suc (suc (suc k))) group is = absurd (cc)

  none_coupled : (i j : ℕ) → ¬ AreCoupled three.graph i j
  none_coupled i j coupled = coupled.apart (group_is i coupled.block.group coupled.block.first ∙ sym (group_is j coupled.block.group coupled.block.second))

  none_linked : (lower : ℕ) → ¬ IsLinked three.graph lower
  none_linked zero linked = cc
  none_linked (suc zero) linked = cc
  none_linked (suc (suc zero)) linked = cc
  none_linked (suc (suc (suc lower))) linked = cc

  supplied : HaveSuppliesOn three regs
  supplied upper zero a b supplies a_is b_is on = absurd (cc)
  supplied upper (suc zero) a b supplies a_is b_is on =
      let upper_is : 0 ≡ upper = same_Some 0 upper supplies in
      let a_same : supply ≡ a = same_Some supply a (subst (λ u. slice_get three.rails u ≡ Some a) (sym upper_is) a_is) in
      subst (λ (rail : Rail). is_on rail regs ≡ true) a_same (needs (subst (λ (rail : Rail). is_on rail regs ≡ true) (sym (same_Some child b b_is)) on))
  supplied upper (suc (suc zero)) a b supplies a_is b_is on = absurd (cc)
  supplied upper (suc (suc (suc lower))) a b supplies a_is b_is on = absurd (cc)

needed : (regs : List (List ℕ)) → Law three regs → is_on child regs ≡ true → is_on supply regs ≡ true
needed regs law on = law.supplies 0 1 supply child refl refl refl on

all_off_lawful : Law three all_off
unfolding field_of byte_of
all_off_lawful = lawful all_off (λ on. cc)

both_on_lawful : Law three both_on
unfolding field_of byte_of with_byte
both_on_lawful = lawful both_on (λ on. refl)

-- a switch after a write of one
can_switch : (regs : List (List ℕ)) (k n : ℕ) → k < 3 → n < 2 → IsImage regs → length regs ≡ three.chips → CanPut regs (switch k) n
can_switch regs k n few bit image chips = record {
  image = image;
  chip = one_chip regs chips;
  reg = omega (arith, few);
  field = record { width = 1; some_bit = omega arith; within = omega arith; run = refl };
  room = omega (arith, bit);
}

no_shared : (k l : ℕ) → k ≢ l → ¬ SharesBit (switch k) (switch l)
no_shared k l apart shared = apart (shared.in_first.1 ∙ sym shared.in_second.1)

as_before : (regs : List (List ℕ)) (k n l : ℕ) → k < 3 → n < 2 → k ≢ l → IsImage regs → length regs ≡ three.chips → field_of (with_field regs (switch k) n) (switch l) ≡ field_of regs (switch l)
as_before regs k n l few bit apart image chips = field_of-with_field_apart regs (switch k) n (switch l) (can_switch regs k n few bit image chips) (no_shared k l apart)

-- the child may come on where its supply is seen to be on, and not where it is off or isn't seen
child_comes_on : KeepsLaw three (0 ∷ 1 ∷ []) first_on (switch 1) 1
child_comes_on regs image chips look law =
    lawful (with_field regs (switch 1) 1)
    (λ on. ap (λ n. n == 1) (as_before regs 1 1 0 (omega arith) (omega arith) (λ same. absurd (omega (arith, same))) image chips ∙ look 0 Enable (switch 0) (0, has_first 0 (1 ∷ []), has_first 0 []) refl))

not_on_without_supply : ¬ Law three (with_field all_off (switch 1) 1)
unfolding field_of byte_of with_field with_byte
not_on_without_supply law = let on = needed (with_field all_off (switch 1) 1) law refl in cc

not_where_supply_is_off : ¬ KeepsLaw three (0 ∷ 1 ∷ []) none_on (switch 1) 1
not_where_supply_is_off keeps = not_on_without_supply (keeps all_off (IsImage-replicate 1) refl looks_off all_off_lawful)

not_where_supply_is_unseen : ¬ KeepsLaw three (1 ∷ []) first_on (switch 1) 1
not_where_supply_is_unseen keeps = not_on_without_supply (keeps all_off (IsImage-replicate 1) refl supply_unseen all_off_lawful)

-- the supply may go off where its child is seen to be off, for which its own lock is enough, and not where that is on
supply_goes_off : KeepsLaw three (0 ∷ []) first_on (switch 0) 0
supply_goes_off regs image chips look law =
    lawful (with_field regs (switch 0) 0)
    (λ on.
    let off = as_before regs 0 0 1 (omega arith) (omega arith) (λ same. absurd (omega (arith, same))) image chips ∙ look 1 Enable (switch 1) guarded_by_supply refl in
    absurd (false≢true (sym (ap (λ n. n == 1) off) ∙ on)))

not_off_below_child : ¬ Law three (with_field both_on (switch 0) 0)
unfolding field_of byte_of with_field with_byte
not_off_below_child law = let on = needed (with_field both_on (switch 0) 0) law refl in cc

not_where_child_is_on : ¬ KeepsLaw three (0 ∷ []) all_on (switch 0) 0
not_where_child_is_on keeps = not_off_below_child (keeps both_on both_on_image both_on_chips looks_on both_on_lawful)

-- the rail beside them may do either, whatever stands in what isn't seen
beside_switches : (n : ℕ) → n < 2 → KeepsLaw three (2 ∷ []) none_on (switch 2) n
beside_switches n bit regs image chips look law =
    let same = λ (k : ℕ) (apart : 2 ≢ k). ap (λ n. n == 1) (as_before regs 2 n k (omega arith) bit apart image chips) in
    lawful (with_field regs (switch 2) n)
    (λ on. same 0 (λ is. absurd (omega (arith, is))) ∙ needed regs law (sym (same 1 (λ is. absurd (omega (arith, is)))) ∙ on))
