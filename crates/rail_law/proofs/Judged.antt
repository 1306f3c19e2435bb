-- The law as it is judged, rail by rail.
use Rattle.std.proofs.Common.{◌≡◌, ◌≢◌, ℕ, ◌+◌, ◌<◌, ◌↔◌, Bool, true, not, ◌||◌, leb, List, [], inl, inr, Option, Some, None, sym, ap, ◌∙◌, arith, length, get_or, slice_get, IsTrue, le-leb}
use Rattle.std.specs.Prelude.{IfSome, option_and_then, slice_index}
use Rattle.std.specs.Option.{option_map_or}
use Rattle.std.proofs.lemmas.Bool.{leb-true, cases_Bool}
use Rattle.std.proofs.lemmas.List.{length-map}
use Rattle.std.proofs.lemmas.Option.{slice_get-get_or, slice_get_within, same_Some}
use Rattle.board_graph.specs.Graph.{supply_at, Supplies, IsIn}
use Rattle.board_graph.specs.Sets.{IsLinked}
use Rattle.board.specs.declared.board.Board.{Board}
use Rattle.board.specs.declared.rail.Rail.{Rail}
use Rattle.board.specs.Rail.{uv, is_on}
use Rattle.board.specs.Valid.{supply_of, is_linked, IsSoundBoard}
use Rattle.rail_law.specs.BoardTies.{dropout_at}
use Rattle.rail_law.specs.Law.{Law}
use Rattle.rail_law.specs.Inside.{KeepsSpread, HasSupplyOn, KeepsDropout, HoldsFor, Binds}
use Rattle.rail_law.proofs.LawByTies.{supply_rail, spread_is_there}
use Rattle.rail_law.proofs.Members.{there_at}

-- the whole law from its rails, and back
pub law_of_rails : (board : Board) (regs : List (List ℕ)) → ((r : ℕ) → r < length board.rails → HoldsFor board regs r) → Law board regs
law_of_rails board regs each = record {
  values = λ i a is. (each i (slice_get_within board.rails i a is)).value a is;
  spreads = λ i j group spread a b coupled in_group spread_is a_is b_is. (each i (slice_get_within board.rails i a a_is)).spreads j group spread a b coupled in_group spread_is a_is b_is;
  supplies = λ upper lower a b supplies a_is b_is. (each lower (slice_get_within board.rails lower b b_is)).supply upper a b supplies a_is b_is;
  dropouts = λ upper lower a b supplies linked a_is b_is. (each lower (slice_get_within board.rails lower b b_is)).dropout upper a b supplies linked a_is b_is;
}

pub law_for_rail : (board : Board) (regs : List (List ℕ)) (r : ℕ) → Law board regs → HoldsFor board regs r
law_for_rail board regs r law = record {
  value = law.values r;
  spreads = law.spreads r;
  supply = λ upper. law.supplies upper r;
  dropout = λ upper. law.dropouts upper r;
}

-- it stands at this value, wherever it is looked up
abbrev pub Stands : List Rail → List (List ℕ) → ℕ → ℕ → Type 0
Stands rails regs i value = (rail : Rail) → slice_get rails i ≡ Some rail → value ≡ uv rail regs

abbrev pub IsOnAt : List Rail → List (List ℕ) → ℕ → Bool → Type 0
IsOnAt rails regs i on = (rail : Rail) → slice_get rails i ≡ Some rail → on ≡ is_on rail regs

pub spread_judged : (board : Board) (regs : List (List ℕ)) (i j spread high low : ℕ) → Binds board i j spread → i < length board.rails → j < length board.rails
    → Stands board.rails regs i high → Stands board.rails regs j low → IsTrue (leb high (low + spread)) ↔ KeepsSpread board regs i j
spread_judged board regs i j spread high low binds first second stands other = (
  λ yes group s a b coupled in_group s_is a_is b_is.
      let same : binds.group ≡ group = same_Some _ _ (sym binds.in_group ∙ in_group) in
      let told : spread ≡ s = same_Some spread s (sym binds.spread_is ∙ ap (slice_get board.spread) same ∙ s_is) in
      omega (arith, leb-true high (low + spread) yes, stands a a_is, other b b_is),
  λ keep.
      let a = there_at board.rails i first in
      let b = there_at board.rails j second in
      le-leb high (low + spread) (omega (arith, keep binds.group spread a.0 b.0 binds.coupled binds.in_group binds.spread_is a.1 b.1, stands a.0 a.1, other b.0 b.1)),
)

pub supply_judged : (board : Board) (regs : List (List ℕ)) (lower upper : ℕ) (on supply_on : Bool) → Supplies board.graph upper lower → lower < length board.rails → upper < length board.rails
    → IsOnAt board.rails regs lower on → IsOnAt board.rails regs upper supply_on → IsTrue (not on || supply_on) ↔ HasSupplyOn board regs lower
supply_judged board regs lower upper on supply_on supplies below above stands other = (
  λ yes up a b supplies_up a_is b_is b_on.
      let same : upper ≡ up = same_Some upper up (sym supplies ∙ supplies_up) in
      let it_is : on ≡ true = stands b b_is ∙ b_on in
      sym (other a (ap (slice_get board.rails) same ∙ a_is)) ∙ sym (ap (λ t. not t || supply_on) it_is) ∙ yes,
  λ keep.
      let a = there_at board.rails upper above in
      let b = there_at board.rails lower below in
      elim (cases_Bool on) [
        | inl it_is ↦ ap (λ t. not t || supply_on) it_is ∙ other a.0 a.1 ∙ keep upper a.0 b.0 supplies a.1 b.1 (sym (stands b.0 b.1) ∙ it_is)
        | inr it_isnt ↦ ap (λ t. not t || supply_on) it_isnt
      ],
)

dropout_is : (board : Board) (i : ℕ) (rail : Rail) → slice_get board.rails i ≡ Some rail → dropout_at board i ≡ rail.desc.dropout
dropout_is board i rail is = ap (λ there. option_map_or (λ (r : Rail). r.desc.dropout) there 0) is

pub dropout_judged : (board : Board) (regs : List (List ℕ)) (lower upper low high : ℕ) → Supplies board.graph upper lower → IsLinked board.graph lower → lower < length board.rails → upper < length board.rails
    → Stands board.rails regs lower low → Stands board.rails regs upper high → IsTrue (leb (low + dropout_at board lower) high) ↔ KeepsDropout board regs lower
dropout_judged board regs lower upper low high supplies linked below above stands other = (
  λ yes up a b supplies_up linked_up a_is b_is.
      let same : upper ≡ up = same_Some upper up (sym supplies ∙ supplies_up) in
      omega (arith, leb-true (low + dropout_at board lower) high yes, stands b b_is, other a (ap (slice_get board.rails) same ∙ a_is), dropout_is board lower b b_is),
  λ keep.
      let a = there_at board.rails upper above in
      let b = there_at board.rails lower below in
      le-leb (low + dropout_at board lower) high (omega (arith, keep upper a.0 b.0 supplies linked a.1 b.1, stands b.0 b.1, other a.0 a.1, dropout_is board lower b.0 b.1)),
)

-- a list with an entry a rail
pub supplies_all : (board : Board) → IsSoundBoard board → length board.graph.supply ≡ length board.rails
supplies_all board sound = ap length sound.graph.supplies ∙ length-map board.rails supply_of

pub links_all : (board : Board) → IsSoundBoard board → length board.graph.link ≡ length board.rails
links_all board sound = ap length sound.graph.links ∙ length-map board.rails (is_linked board)

pub groups_all : (board : Board) → IsSoundBoard board → length board.graph.group ≡ length board.rails
groups_all board sound = ap length sound.graph.groups ∙ length-map board.rails (λ rail. rail.group)

-- the supply of a rail is a rail
pub supply_below : (board : Board) (r : ℕ) (supply : Option ℕ) → IsSoundBoard board → r < length board.rails → supply ≡ supply_at board.graph r → IfSome supply (λ upper. upper < length board.rails)
supply_below board r None sound within is = tt
supply_below board r (Some upper) sound within is =
    let rail = there_at board.rails r within in
    let below = supply_rail board [] sound.graph sound.spreads r upper rail.0 rail.1 (sym is) in
    omega (arith, below, groups_all board sound)

-- the group of a rail, and its spread
pub in_group : (board : Board) (r group : ℕ) → IsSoundBoard board → r < length board.rails → group ≡ slice_index board.graph.group r → IsIn board.graph group r
in_group board r group sound within is = slice_get-get_or board.graph.group r 0 (omega (arith, groups_all board sound)) ∙ ap Some (sym is)

pub group_within : (board : Board) (r group : ℕ) → IsSoundBoard board → r < length board.rails → group ≡ slice_index board.graph.group r → group < length board.spread
group_within board r group sound within is =
    slice_get_within board.spread group (slice_index board.spread group) (spread_is_there board [] sound.graph sound.spreads r group (in_group board r group sound within is))

pub binds_both : (board : Board) (r other group spread : ℕ) → IsSoundBoard board → r < length board.rails → other < length board.rails → r ≢ other
    → group ≡ slice_index board.graph.group r → group ≡ slice_index board.graph.group other → spread ≡ slice_index board.spread group → Binds board r other spread
binds_both board r other group spread sound first second apart is also spread_is = record {
  group = group;
  coupled = record { apart = apart; block = record { group = group; first = in_group board r group sound first is; second = in_group board other group sound second also } };
  in_group = in_group board r group sound first is;
  spread_is = slice_get-get_or board.spread group 0 (group_within board r group sound first is) ∙ ap Some (sym spread_is);
}

pub supply_read : (board : Board) (r : ℕ) (supplies : List (Option ℕ)) → IsSoundBoard board → r < length board.rails → supplies ≡ board.graph.supply → get_or supplies r None ≡ supply_at board.graph r
supply_read board r supplies sound within is =
    ap (λ all. get_or all r None) is ∙ ap (option_and_then (λ supply. supply)) (sym (slice_get-get_or board.graph.supply r None (omega (arith, supplies_all board sound))))
