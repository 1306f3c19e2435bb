-- Ways put together.
use Rattle.std.proofs.Common.{◌≡◌, ℕ, ◌⊎◌, inl, inr, List, [], ◌∷◌, refl, sym, subst}
use Rattle.board_graph.specs.Ways.{IsWay, Leads}

-- one step, and then the others
pub step_leads : {Step : ℕ → ℕ → Type 0} (a b c : ℕ) → Step a b → Leads Step b c → Leads Step a c
step_leads a b c step leads = record { between = b ∷ leads.between; way = (step, leads.way) }

-- steps, and then one more
pub leads_step : {Step : ℕ → ℕ → Type 0} (a b c : ℕ) → Leads Step a b → Step b c → Leads Step a c
leads_step {Step} a b c leads step = by a leads.between leads.way where
  by : (a : ℕ) (between : List ℕ) → IsWay Step a between b → Leads Step a c
  by a [] way = record { between = b ∷ []; way = (way, step) }
  by a (via ∷ rest) way = let more = by via rest way.1 in step_leads a via c way.0 more

pub leads_leads : {Step : ℕ → ℕ → Type 0} (a b c : ℕ) → Leads Step a b → Leads Step b c → Leads Step a c
leads_leads {Step} a b c leads more = by a leads.between leads.way where
  by : (a : ℕ) (between : List ℕ) → IsWay Step a between b → Leads Step a c
  by a [] way = step_leads a b c way more
  by a (via ∷ rest) way = let later = by via rest way.1 in step_leads a via c way.0 later

-- the last step of a way, and the way to it
pub last_step : {Step : ℕ → ℕ → Type 0} (a b : ℕ) (between : List ℕ) → IsWay Step a between b → (via : ℕ) × Step via b × ((via ≡ a) ⊎ Leads Step a via)
last_step a b [] way = (a, way, inl refl)
last_step {Step} a b (via ∷ rest) way =
    let there = last_step via b rest way.1 in (
      there.0,
      there.1,
      elim there.2 [
        | inl same ↦ inr (record { between = []; way = subst (λ x. Step a x) (sym same) way.0 })
        | inr leads ↦ inr (record { between = via ∷ leads.between; way = (way.0, leads.way) })
      ],
    )
