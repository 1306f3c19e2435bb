-- The first of a node's numbers that is no mode.
use Rattle.std.proofs.Common.{◌≡◌, ℕ, true, not, cond, List, [], Option, Some, None, ap, ◌∙◌}
use Rattle.std.specs.Option.{option_map, option_or, is_some}
use Rattle.std.proofs.lemmas.List.Folds.{find-append}
use Rattle.std.specs.Prelude.{option_to_list}
use Rattle.board.specs.declared.desc.Desc.{Desc}
use Rattle.dts_tree.specs.Tree.{Node}
use Rattle.dts_nodes.specs.Forms.{is_or, told_by}
use Rattle.constraints.specs.ModeCells.{mode_of_number, allowed_numbers, initial_number, mode_numbers, first_bad, bad_mode}

module _ (nodes : List Node) (node : ℕ) (desc : Desc) (modes : is_some desc.modes ≡ true) where
  -- those of the allowed modes come first
  pub bad_mode-parts : bad_mode nodes node desc
      ≡ option_or (first_bad (is_or [] (allowed_numbers nodes node))) (first_bad (option_to_list (told_by (initial_number nodes node))))
  bad_mode-parts =
      ap (λ b. cond b (first_bad (mode_numbers nodes node)) None) modes
      ∙ find-append (λ n. not (is_some (mode_of_number n))) (is_or [] (allowed_numbers nodes node)) (option_to_list (told_by (initial_number nodes node)))

module _ {F : Type 0} (fault : ℕ → F) where
  pub first_told : (o p q : Option ℕ) (f : F) → q ≡ option_or o p → option_map fault o ≡ Some f → option_map fault q ≡ Some f
  first_told None p q f is told = absurd (cc)
  first_told (Some n) p q f is told = ap (option_map fault) is ∙ told

  pub second_told : (o p q : Option ℕ) (f : F) → q ≡ option_or o p → o ≡ None → option_map fault p ≡ Some f → option_map fault q ≡ Some f
  second_told o p q f is none told = ap (option_map fault) (is ∙ ap (λ r. option_or r p) none) ∙ told
