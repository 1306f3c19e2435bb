-- Outcomes are there once, and come of what a reader comes to.
use Rattle.std.proofs.Common.{◌≡◌, ℕ, List, Bool, true, false, cond, Result, Ok, Err, length, ap, ◌∙◌, subst}
use Rattle.std.specs.List.{find}
use Rattle.dts_lex.specs.declared.token.Token.{Token}
use Rattle.dts_tree.specs.declared.fault.TreeFault.{TreeFault}
use Rattle.dts_tree.specs.declared.fault.TreeFault.TheVariants.{Syntax}
use Rattle.dts_tree.specs.Outcome.{IsOutcome, is_unknown, unless_unknown}
use Rattle.dts_tree.specs.Tree.{Node}
use Rattle.dts_tree.specs.Content.{unless_fault}
use Rattle.dts_tree.specs.Inside.View.{View, ended, may_end, take_all, view_start}
use Rattle.dts_tree.specs.Laws.{OneOutcome}
use Rattle.dts_tree.proofs.UniqueLemmas.{same_outcome}
use Rattle.dts_tree.proofs.ViewLemmas.{view_outcome}

pub one_outcome : OneOutcome
one_outcome text tokens =
    let outcome = unless_fault (ended text) (take_all text view_start tokens) in
    (outcome, (view_outcome text tokens, λ other is. same_outcome text tokens other outcome is (view_outcome text tokens)))

-- the outcome of a text by what a reader came to
module _ (text : List ℕ) (tokens : List Token) where
  pub outcome_wrong : (fault : TreeFault) → take_all text view_start tokens ≡ Err fault → IsOutcome text tokens (Err fault)
  outcome_wrong fault is = subst (IsOutcome text tokens) (ap (unless_fault (ended text)) is) (view_outcome text tokens)

  module _ (v : View) (is : take_all text view_start tokens ≡ Ok v) where
    pub outcome_early : may_end v ≡ false → IsOutcome text tokens (Err (Syntax (length text)))
    outcome_early open_ =
        subst (IsOutcome text tokens) (ap (unless_fault (ended text)) is ∙ ap (λ (b : Bool). cond b (unless_unknown v.content (find (is_unknown v.content) v.refs)) (Err (Syntax (length text)))) open_) (view_outcome text tokens)

    pub outcome_whole : may_end v ≡ true → (r : Result (List Node) TreeFault) → unless_unknown v.content (find (is_unknown v.content) v.refs) ≡ r → IsOutcome text tokens r
    outcome_whole closed r same =
        subst (IsOutcome text tokens) (ap (unless_fault (ended text)) is ∙ ap (λ (b : Bool). cond b (unless_unknown v.content (find (is_unknown v.content) v.refs)) (Err (Syntax (length text)))) closed ∙ same) (view_outcome text tokens)
