-- Graphs worked out by hand: what the definitions say of supplies, groups and loops.
use Rattle.std.proofs.Common.{◌≡◌, ◌≢◌, ℕ, zero, suc, ◌+◌, ◌<◌, ◌≤◌, true, false, ◌⊎◌, inl, inr, subst, List, [], ◌∷◌, Option, Some, None, refl, sym, ◌∙◌, arith, length, replicate}
use Rattle.std.proofs.lemmas.List.{length-replicate}
use Rattle.std.specs.Prelude.{IfSome}
use Rattle.std.proofs.lemmas.List.Elements.{All-from_recursion, All-replicate}
use Rattle.board_graph.specs.declared.graph.Graph.{Graph}
use Rattle.board_graph.specs.Ways.{IsWay, Leads}
use Rattle.board_graph.specs.Graph.{count_of, IsGraph, Supplies, IsAbove, IsOnSupplyLoop, IsIn, AreOneBlock, AreCoupled, members, Feeds, IsOnBlockLoop}
use Rattle.board_graph.proofs.FailsBy.{FailsBy}

-- the supply is one of two rails, where there is one
abbrev in_two : Option ℕ → Type 0
in_two supply = IfSome supply (λ s. s < 2)

-- two rails, the first of which supplies the second, which is linked to it
two_rails : IsGraph (record { supply = None ∷ Some 0 ∷ []; group = 0 ∷ 1 ∷ []; link = false ∷ true ∷ [] })
two_rails = record {
  supplies = refl;
  links = refl;
  few = omega arith;
  rails = All-from_recursion in_two (None ∷ Some 0 ∷ []) (tt, (omega arith, tt));
}

-- a supply is missing in the list
short_supplies : FailsBy (length {A = Option ℕ} (None ∷ []) ≡ 2) (IsGraph (record { supply = None ∷ []; group = 0 ∷ 1 ∷ []; link = false ∷ true ∷ [] }))
short_supplies = record {
  needs = λ graph. graph.supplies;
  suffices = λ same. record { supplies = same; links = refl; few = omega arith; rails = All-from_recursion in_two (None ∷ []) (tt, tt) };
  fails = λ same. absurd (omega arith);
}

-- a link is missing in the list
short_links : FailsBy (length (false ∷ []) ≡ 2) (IsGraph (record { supply = None ∷ None ∷ []; group = 0 ∷ 1 ∷ []; link = false ∷ [] }))
short_links = record {
  needs = λ graph. graph.links;
  suffices = λ same. record { supplies = refl; links = same; few = omega arith; rails = All-from_recursion in_two (None ∷ None ∷ []) (tt, (tt, tt)) };
  fails = λ same. absurd (omega arith);
}

-- so many rails without supplies, in one group
abbrev many : ℕ → Graph
many n = record { supply = replicate n None; group = replicate n 0; link = replicate n false }

-- they are a graph where they are 65535 at the most
up_to_65535 : (n : ℕ) → n ≤ 65535 → IsGraph (many n)
up_to_65535 n few = record {
  supplies = length-replicate n None ∙ sym (length-replicate n 0);
  links = length-replicate n false ∙ sym (length-replicate n 0);
  few = rw (length-replicate {A = ℕ} n 0) few;
  rails = All-replicate (λ supply. IfSome supply (λ s. s < count_of (many n))) n None tt;
}

too_many : FailsBy (65536 ≤ 65535) (IsGraph (many 65536))
too_many = record {
  needs = λ graph. rw (length-replicate {A = ℕ} 65536 0) at graph.few;
  suffices = λ few. up_to_65535 65536 few;
  fails = λ few. absurd (omega arith);
}

-- a supply that is no rail: the first number behind the last rail's
no_such_supply : FailsBy (2 < 2) (IsGraph (record { supply = None ∷ Some 2 ∷ []; group = 0 ∷ 1 ∷ []; link = false ∷ true ∷ [] }))
no_such_supply = record {
  needs = λ graph. graph.rails 1 None (omega arith);
  suffices = λ there. record { supplies = refl; links = refl; few = omega arith; rails = All-from_recursion in_two (None ∷ Some 2 ∷ []) (tt, (there, tt)) };
  fails = λ there. absurd (omega arith);
}

-- a graph by its supplies and groups
abbrev pub graph_of : List (Option ℕ) → List ℕ → Graph
graph_of supply group = record { supply = supply; group = group; link = [] }

-- rail 0 supplies rail 1, which supplies rail 2; each has a group of its own
abbrev pub chain : Graph
chain = graph_of (None ∷ Some 0 ∷ Some 1 ∷ []) (0 ∷ 1 ∷ 2 ∷ [])

supplies_next : Supplies chain 1 2
supplies_next = refl

not_supplied_by_next : ¬ Supplies chain 2 1
not_supplied_by_next is = cc

above_next : IsAbove chain 1 2
above_next = record { between = []; way = refl }

above_both : IsAbove chain 0 2
above_both = record { between = 1 ∷ []; way = (refl, refl) }

chain_rises : (upper lower : ℕ) → Supplies chain upper lower → upper < lower
chain_rises upper zero is = absurd (cc)
chain_rises upper (suc zero) is = let e : 0 ≡ upper = cc in omega arith
chain_rises upper (suc (suc zero)) is = let e : 1 ≡ upper = cc in omega arith
chain_rises upper (suc (suc (suc lower))) is = absurd (cc)

way_rises : (upper lower : ℕ) (between : List ℕ) → IsWay (Supplies chain) upper between lower → upper < lower
way_rises upper lower [] way = chain_rises upper lower way
way_rises upper lower (via ∷ rest) way = omega (arith, chain_rises upper via way.0, way_rises via lower rest way.1)

-- nothing is above itself or above what is above it
not_above : (upper lower : ℕ) → lower ≤ upper → ¬ IsAbove chain upper lower
not_above upper lower under above = absurd (omega (arith, way_rises upper lower above.between above.way))

no_supply_loop : (r : ℕ) → ¬ IsOnSupplyLoop chain r
no_supply_loop r = not_above r r (omega arith)

-- rails 0 and 1 supply each other, and rail 1 supplies rail 2
abbrev pub supply_loop : Graph
supply_loop = graph_of (Some 1 ∷ Some 0 ∷ Some 1 ∷ []) (0 ∷ 1 ∷ 2 ∷ [])

first_on_loop : IsOnSupplyLoop supply_loop 0
first_on_loop = record { between = 1 ∷ []; way = (refl, refl) }

second_on_loop : IsOnSupplyLoop supply_loop 1
second_on_loop = record { between = 0 ∷ []; way = (refl, refl) }

-- rail 2 hangs on the loop, and supplies none
third_supplies_none : (lower : ℕ) → ¬ Supplies supply_loop 2 lower
third_supplies_none zero is = cc
third_supplies_none (suc zero) is = cc
third_supplies_none (suc (suc zero)) is = cc
third_supplies_none (suc (suc (suc lower))) is = cc

third_leads_nowhere : (lower : ℕ) (between : List ℕ) → ¬ IsWay (Supplies supply_loop) 2 between lower
third_leads_nowhere lower [] way = third_supplies_none lower way
third_leads_nowhere lower (via ∷ rest) way = third_supplies_none via way.0

third_hangs_on_loop : ¬ IsOnSupplyLoop supply_loop 2
third_hangs_on_loop loop = third_leads_nowhere 2 loop.between loop.way

-- rails 0 and 2 are coupled, and rail 1 stands alone
abbrev pub pair : Graph
pair = graph_of (None ∷ None ∷ None ∷ []) (5 ∷ 6 ∷ 5 ∷ [])

one_block : AreOneBlock pair 2 0
one_block = record { group = 5; first = refl; second = refl }

two_blocks : ¬ AreOneBlock pair 0 1
two_blocks block =
    let first : 5 ≡ block.group = cc in
    let second : 6 ≡ block.group = cc in
    absurd (omega arith)

no_rail_no_block : ¬ AreOneBlock pair 3 0
no_rail_no_block block = cc

coupled : AreCoupled pair 0 2
coupled = record { apart = λ same. absurd (omega arith); block = record { group = 5; first = refl; second = refl } }

not_with_itself : let zero : ℕ = 0 in FailsBy (zero ≢ zero) (AreCoupled pair 0 0)
not_with_itself = record {
  needs = λ both. both.apart;
  suffices = λ apart. record { apart = apart; block = record { group = 5; first = refl; second = refl } };
  fails = λ apart. apart refl;
}

not_over_groups : FailsBy (AreOneBlock pair 0 1) (AreCoupled pair 0 1)
not_over_groups = record {
  needs = λ both. both.block;
  suffices = λ block. record { apart = λ same. absurd (omega arith); block = block };
  fails = two_blocks;
}

members_of_pair : members pair 5 ≡ 0 ∷ 2 ∷ []
members_of_pair = refl

members_of_lone : members pair 6 ≡ 1 ∷ []
members_of_lone = refl

members_of_none : members pair 7 ≡ []
members_of_none = refl

-- rails 0 and 3 are coupled; rail 0 supplies rail 1, which supplies rail 3, which supplies rail 2
abbrev pub block_loop : Graph
block_loop = graph_of (None ∷ Some 0 ∷ Some 3 ∷ Some 1 ∷ []) (0 ∷ 1 ∷ 2 ∷ 0 ∷ [])

pair_feeds : Feeds block_loop 0 1
pair_feeds = record { upper = 0; lower = 1; supplies = refl; in_above = refl; in_below = refl }

pair_is_fed : Feeds block_loop 1 0
pair_is_fed = record { upper = 1; lower = 3; supplies = refl; in_above = refl; in_below = refl }

-- where the one feeds the other, by a rail that supplies a rail
feeding : (above below upper lower : ℕ) → Supplies block_loop upper lower → IsIn block_loop above upper → IsIn block_loop below lower
    → ((above ≡ 0) × (below ≡ 1)) ⊎ (((above ≡ 0) × (below ≡ 2)) ⊎ ((above ≡ 1) × (below ≡ 0)))
feeding above below upper zero supplies in_above in_below = absurd (cc)
feeding above below zero (suc zero) supplies in_above in_below = inl (cc, cc)
feeding above below (suc upper) (suc zero) supplies in_above in_below = absurd (cc)
feeding above below zero (suc (suc zero)) supplies in_above in_below = absurd (cc)
feeding above below (suc zero) (suc (suc zero)) supplies in_above in_below = absurd (cc)
feeding above below (suc (suc zero)) (suc (suc zero)) supplies in_above in_below = absurd (cc)
feeding above below (suc (suc (suc zero))) (suc (suc zero)) supplies in_above in_below = inr (inl (cc, cc))
feeding above below (suc (suc (suc (suc upper)))) (suc (suc zero)) supplies in_above in_below = absurd (cc)
feeding above below zero (suc (suc (suc zero))) supplies in_above in_below = absurd (cc)
feeding above below (suc zero) (suc (suc (suc zero))) supplies in_above in_below = inr (inr (cc, cc))
feeding above below (suc (suc upper)) (suc (suc (suc zero))) supplies in_above in_below = absurd (cc)
feeding above below upper (suc (suc (suc (suc lower)))) supplies in_above in_below = absurd (cc)

feeds_only : (above below : ℕ) → Feeds block_loop above below → (above < 2) × (above + below ≢ 3)
feeds_only above below feeds = elim (feeding above below feeds.upper feeds.lower feeds.supplies feeds.in_above feeds.in_below) [
  | inl first ↦ (omega arith, λ sum. absurd (omega arith))
  | inr (inl second) ↦ (omega arith, λ sum. absurd (omega arith))
  | inr (inr third) ↦ (omega arith, λ sum. absurd (omega arith))
]

-- each has a rail, and the one's doesn't supply the other's
neither_supplies : ¬ Feeds block_loop 1 2
neither_supplies feeds = (feeds_only 1 2 feeds).1 refl

-- rail 2 is fed by the pair, and not by the group of rail 1, and feeds none
feeds_none : (below : ℕ) → ¬ Feeds block_loop 2 below
feeds_none below feeds = absurd (omega (arith, (feeds_only 2 below feeds).0))

pair_on_loop : IsOnBlockLoop block_loop 3
pair_on_loop = record { group = 0; in_group = refl; loop = record { between = 1 ∷ []; way = (pair_feeds, pair_is_fed) } }

lone_on_loop : IsOnBlockLoop block_loop 1
lone_on_loop = record { group = 1; in_group = refl; loop = record { between = 0 ∷ []; way = (pair_is_fed, pair_feeds) } }

leads_nowhere : (group : ℕ) (between : List ℕ) → ¬ IsWay (Feeds block_loop) 2 between group
leads_nowhere group [] way = feeds_none group way
leads_nowhere group (via ∷ rest) way = feeds_none via way.0

-- rail 2 hangs on the loop
hangs_on_loop : ¬ IsOnBlockLoop block_loop 2
hangs_on_loop on =
    let P : ℕ → Type 0 = λ group. Leads (Feeds block_loop) group group in
    let same : on.group ≡ 2 = cc in
    let loop : Leads (Feeds block_loop) 2 2 = subst P same on.loop in
    leads_nowhere 2 loop.between loop.way
