use Rattle.std.proofs.Common.{◌≡◌, ◌∙◌, ◌-◌, ℕ, List, ap, map, sym, arith}
use Rattle.std.specs.List.{slice_get}
use Rattle.dts_tree.specs.declared.store.Opened.{Opened}
use Rattle.dts_tree.proofs.ReaderLemmas.{depth-some, depth-there, depth-missing}
use Rattle.dts_tree.proofs.store.Store.depth.Goals as goal

-- a value of the entries that are listed
listed : (xs es : List ((ℕ × List ℕ) × Opened)) (k : ℕ) → xs ≡ es → slice_get (map (λ e. e.1) xs) k ≡ slice_get (map (λ e. e.1) es) k
listed xs es k is = ap (λ (ys : List ((ℕ × List ℕ) × Opened)). slice_get (map (λ e. e.1) ys) k) is

pub returns-in-Some : goal.returns-in-Some
returns-in-Some c =
    let es = c.args.self.now.children in
    sym (depth-some es c.args.node (omega arith) ∙ depth-there es (c.args.node - 1) c.in-Some.opened.now (c.in-Some.ensures ∙ listed c.list.result.now es (c.args.node - 1) c.list.ensures))

pub returns-in-None : goal.returns-in-None
returns-in-None c =
    let es = c.args.self.now.children in
    sym (depth-some es c.args.node (omega arith) ∙ depth-missing es (c.args.node - 1) (c.in-None.ensures ∙ listed c.list.result.now es (c.args.node - 1) c.list.ensures))
