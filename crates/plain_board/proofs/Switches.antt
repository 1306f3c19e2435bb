-- The registers after on bits were written: each of these reads as written, and all else as before.
use Rattle.std.proofs.Common.{◌≡◌, ◌≢◌, ℕ, ◌≤◌, true, false, List, [], ◌∷◌, Option, Some, None, inl, inr, refl, sym, ap, ◌∙◌, subst, arith, length, slice_get}
use Rattle.std.specs.Prelude.{◌==◌, unwrap_or, option_and_then}
use Rattle.std.proofs.lemmas.Bool.{cases_eq, both_ways}
use Rattle.std.proofs.lemmas.Option.{same_Some}
use Rattle.chip_regs.specs.declared.field.Field.{Field}
use Rattle.chip_regs.specs.Registers.{IsImage, CanPut, field_of, with_field}
use Rattle.chip_regs.proofs.Fields.{field_of-with_field, field_of-with_field_apart, IsImage-with_field, length-with_field}
use Rattle.board.specs.declared.board.Board.{Board}
use Rattle.board.specs.declared.part.Part.{Part}
use Rattle.board.specs.declared.part.Part.TheVariants.{Selector, Enable}
use Rattle.board.specs.declared.rail.Rail.{Rail}
use Rattle.board.specs.Desc.{IsPlaced}
use Rattle.board.specs.Fields.{field_at}
use Rattle.board.specs.Rail.{IsAllowed, uv, told_uv, is_on, part_field}
use Rattle.board.specs.Table.{uv_of}
use Rattle.board.specs.Valid.{IsSoundRail, IsSoundBoard}
use Rattle.board_graph.specs.Graph.{Supplies}
use Rattle.rail_law.specs.Law.{Law, HaveSuppliesOn}
use Rattle.rail_law.specs.Moves.{written, after_moves}
use Rattle.plain_board.specs.Plan.{switch}
use Rattle.plain_board.specs.Untied.{IsUntied, HoldFields}
use Rattle.plain_board.proofs.MovedAlone.{all_at}

-- the registers where on bits alone may be others
pub record AreSwitchedOnly (board : Board) (before after : List (List ℕ)) : Type 0 where
  pub fields : (k : ℕ) (part : Part) (f : Field) → field_at board k part ≡ Some f → Enable ≢ part → field_of after f ≡ field_of before f
  pub image : IsImage after
  pub chips : length after ≡ length before

-- the registers after rail r's on bit was written: it reads this, and those of the other rails read as before
pub record IsSwitchedAt (board : Board) (r bits : ℕ) (first before after : List (List ℕ)) : Type 0 where
  pub only : AreSwitchedOnly board first after
  pub own : (rail : Rail) → slice_get board.rails r ≡ Some rail → is_on rail after ≡ (bits == 1)
  pub others : (k : ℕ) (other : Rail) → slice_get board.rails k ≡ Some other → r ≢ k → is_on other after ≡ is_on other before

-- the registers after one switch
abbrev pub after_switch : Board → ℕ → ℕ → List (List ℕ) → List (List ℕ)
after_switch board bits r regs = after_moves board regs (switch bits r ∷ [])

module _ (board : Board) (sound : IsSoundBoard board) (first : List (List ℕ)) (chips : length first ≡ board.chips) (hold : HoldFields board first) where
  pub nothing_switched : AreSwitchedOnly board first first
  nothing_switched = record { fields = λ k part f is apart. refl; image = hold.image; chips = refl }

  enable_at : (k : ℕ) (rail : Rail) → slice_get board.rails k ≡ Some rail → field_at board k Enable ≡ Some rail.desc.enable
  enable_at k rail at = ap (option_and_then (part_field Enable)) at

  module _ (bits : ℕ) (one_bit : bits ≤ 1) (r : ℕ) (regs : List (List ℕ)) (only : AreSwitchedOnly board first regs) where
    put_switched : (rail : Rail) → slice_get board.rails r ≡ Some rail → IsSwitchedAt board r bits first regs (with_field regs rail.desc.enable bits)
    put_switched rail there =
        let own : IsSoundRail board.chips rail = all_at (IsSoundRail board.chips) board.rails r rail sound.rails there in
        let placed : IsPlaced board.chips rail.desc.enable = own.desc.placed Enable in
        let at = enable_at r rail there in
        let can : CanPut regs rail.desc.enable bits = record {
          image = only.image;
          chip = omega (arith, placed.chip, only.chips, chips);
          reg = hold.places r Enable rail.desc.enable at;
          field = placed.shape;
          room = omega (arith, own.desc.enable, one_bit);
        } in
        record {
          only = record {
            fields = λ k part g is apart.
                field_of-with_field_apart regs rail.desc.enable bits g can (sound.apart r k Enable part rail.desc.enable g (inr apart) at is)
                ∙ only.fields k part g is apart;
            image = IsImage-with_field regs rail.desc.enable bits can;
            chips = length-with_field regs rail.desc.enable bits ∙ only.chips;
          };
          own = λ a a_at.
              let one : rail ≡ a = same_Some _ _ (sym there ∙ a_at) in
              ap (λ (b : Rail). is_on b (with_field regs rail.desc.enable bits)) (sym one) ∙ ap (λ n. n == 1) (field_of-with_field regs rail.desc.enable bits can);
          others = λ k other other_at apart.
              ap (λ n. n == 1) (field_of-with_field_apart regs rail.desc.enable bits other.desc.enable can
              (sound.apart r k Enable Enable rail.desc.enable other.desc.enable (inl apart) at (enable_at k other other_at)));
        }

    switched_by : (o : Option Rail) → slice_get board.rails r ≡ o → IsSwitchedAt board r bits first regs (written (option_and_then (part_field Enable) o) regs bits)
    switched_by None none = record { only = only; own = λ rail at. absurd (cc); others = λ k other at apart. refl }
    switched_by (Some rail) there = put_switched rail there

    pub switched_at : IsSwitchedAt board r bits first regs (after_switch board bits r regs)
    switched_at = switched_by (slice_get board.rails r) refl

-- where on bits alone were changed each rail stands as before
module _ (board : Board) (before after : List (List ℕ)) (only : AreSwitchedOnly board before after) where
  stands_by : (k : ℕ) (rail : Rail) (o : Option Field) → slice_get board.rails k ≡ Some rail → rail.desc.selector ≡ o → told_uv rail after o ≡ told_uv rail before o
  stands_by k rail None at is = refl
  stands_by k rail (Some f) at is =
      ap (λ n. unwrap_or (uv_of rail.desc.table n) rail.kept_uv) (only.fields k Selector f (ap (option_and_then (part_field Selector)) at ∙ is) (λ same. absurd (cc)))

  pub uv_kept : (k : ℕ) (rail : Rail) → slice_get board.rails k ≡ Some rail → uv rail after ≡ uv rail before
  uv_kept k rail at = stands_by k rail rail.desc.selector at refl

  -- so the law holds where each rail that is on has its supply on
  pub law_switched : IsUntied board → Law board before → HaveSuppliesOn board after → Law board after
  law_switched untied law supplies = record {
    values = λ i a at. subst (IsAllowed a) (sym (uv_kept i a at)) (law.values i a at);
    spreads = λ i j group spread a b coupled. absurd (untied.uncoupled i j coupled);
    supplies = supplies;
    dropouts = λ upper lower a b supplied linked. absurd (untied.unlinked lower linked);
  }

-- The registers while rails are switched, from `first` on: on bits alone were changed, each rail that
-- is on has its supply on, and each rail that is needed is on.
pub record IsSwitching (board : Board) (first : List (List ℕ)) (Needed : ℕ → Type 0) (regs : List (List ℕ)) : Type 0 where
  pub only : AreSwitchedOnly board first regs
  pub supplies : HaveSuppliesOn board regs
  pub needed : (i : ℕ) (rail : Rail) → slice_get board.rails i ≡ Some rail → Needed i → is_on rail regs ≡ true

module _ (board : Board) (sound : IsSoundBoard board) (first : List (List ℕ)) (chips : length first ≡ board.chips) (hold : HoldFields board first) (Needed : ℕ → Type 0) (r : ℕ) (regs : List (List ℕ)) (state : IsSwitching board first Needed regs) where
  abbrev on_regs : List (List ℕ)
  on_regs = after_switch board 1 r regs

  turned_on : IsSwitchedAt board r 1 first regs on_regs
  turned_on = switched_at board sound first chips hold 1 (omega arith) r regs state.only

  abbrev off_regs : List (List ℕ)
  off_regs = after_switch board 0 r regs

  turned_off : IsSwitchedAt board r 0 first regs off_regs
  turned_off = switched_at board sound first chips hold 0 (omega arith) r regs state.only

  -- the rail is on after it was switched on
  pub is_on_now : (rail : Rail) → slice_get board.rails r ≡ Some rail → is_on rail on_regs ≡ true
  is_on_now rail at = turned_on.own rail at

  -- and each that was on is
  pub stays_on : (k : ℕ) (rail : Rail) → slice_get board.rails k ≡ Some rail → is_on rail regs ≡ true → is_on rail on_regs ≡ true
  stays_on k rail at was = elim (cases_eq r k) [
    | inl same ↦ turned_on.own rail (ap (slice_get board.rails) same ∙ at)
    | inr apart ↦ turned_on.others k rail at apart ∙ was
  ]

  -- a rail whose supply is on may be switched on
  pub switch_on : ((upper : ℕ) (a : Rail) → Supplies board.graph upper r → slice_get board.rails upper ≡ Some a → is_on a regs ≡ true) → IsSwitching board first Needed on_regs
  switch_on supplied = record {
    only = turned_on.only;
    supplies = λ upper lower a b supplies a_at b_at lower_on. elim (cases_eq r lower) [
      | inl same ↦ stays_on upper a a_at (supplied upper a (subst (Supplies board.graph upper) (sym same) supplies) a_at)
      | inr apart ↦ stays_on upper a a_at (state.supplies upper lower a b supplies a_at b_at (sym (turned_on.others lower b b_at apart) ∙ lower_on))
    ];
    needed = λ i rail at need. stays_on i rail at (state.needed i rail at need);
  }

  -- a rail that is supply of none that is on, and isn't needed, may be switched off
  pub switch_off : ((lower : ℕ) (b : Rail) → Supplies board.graph r lower → slice_get board.rails lower ≡ Some b → is_on b regs ≡ false) → ¬ Needed r → IsSwitching board first Needed off_regs
  switch_off unused unneeded = record {
    only = turned_off.only;
    supplies = λ upper lower a b supplies a_at b_at lower_on. elim (cases_eq r lower) [
      | inl same ↦ absurd (both_ways _ (turned_off.own b (ap (slice_get board.rails) same ∙ b_at)) lower_on)
      | inr apart ↦
          let was : is_on b regs ≡ true = sym (turned_off.others lower b b_at apart) ∙ lower_on in
          elim (cases_eq r upper) [
            | inl same ↦ absurd (both_ways _ (unused lower b (subst (λ u. Supplies board.graph u lower) (sym same) supplies) b_at) was)
            | inr above ↦ turned_off.others upper a a_at above ∙ state.supplies upper lower a b supplies a_at b_at was
          ]
    ];
    needed = λ i rail at need. elim (cases_eq r i) [
      | inl same ↦ absurd (unneeded (subst Needed (sym same) need))
      | inr apart ↦ turned_off.others i rail at apart ∙ state.needed i rail at need
    ];
  }
