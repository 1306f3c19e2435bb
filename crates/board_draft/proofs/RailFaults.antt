-- The faults of a rail's node, one after another.
use Rattle.std.proofs.Common.{◌≡◌, ◌≢◌, ℕ, Bool, true, false, not, List, Option, Some, None, refl, ap, subst, ◌∙◌}
use Rattle.std.specs.Option.{option_or, option_map, is_none, is_some}
use Rattle.dts_tree.specs.Tree.{Node}
use Rattle.dts_nodes.specs.declared.form.Form.{Form}
use Rattle.dts_nodes.specs.declared.form.Form.TheVariants.{Absent, Wrong, Is}
use Rattle.dts_nodes.specs.Forms.{is_wrong}
use Rattle.constraints.specs.declared.fault.RailFault.{RailFault}
use Rattle.constraints.specs.declared.fault.RailFault.TheVariants.{Memory as RailMemory}
use Rattle.constraints.specs.declared.prop.Prop.{Prop}
use Rattle.constraints.specs.declared.prop.Prop.TheVariants.{Supply}
use Rattle.constraints.specs.Faults.{wrong_form, value_fault}
use Rattle.board_nodes.specs.Rails.{Found}
use Rattle.board_draft.specs.declared.fault.BoardFault.{BoardFault}
use Rattle.board_draft.specs.declared.fault.BoardFault.TheVariants.{BadCells, Memory}
use Rattle.board_draft.specs.Fault.{of_rail}
use Rattle.board_draft.specs.Links.{supply_form}
use Rattle.board_draft.specs.Faults.{rail_fault}

or_none : {A : Type 0} (o : Option A) → option_or o None ≡ o
or_none None = refl
or_none (Some a) = refl

pub not_wrong : {A : Type 0} (form : Form A) → (form ≡ Wrong → ⊥) → is_wrong form ≡ false
not_wrong Absent never = refl
not_wrong Wrong never = absurd (never refl)
not_wrong (Is a) never = refl

module _ (nodes : List Node) (r : ℕ) (found : Found) where
  pub by_form : (prop : Prop) → wrong_form nodes found.node found.desc ≡ Some prop → rail_fault nodes r found ≡ Some (BadCells r prop)
  by_form prop is = rw is refl

  pub by_supply : wrong_form nodes found.node found.desc ≡ None → supply_form nodes found ≡ Wrong → rail_fault nodes r found ≡ Some (BadCells r Supply)
  by_supply right is = rw (right, is) refl

  pub by_value : (fixed : Bool) (told : Option RailFault) → wrong_form nodes found.node found.desc ≡ None → is_wrong (supply_form nodes found) ≡ false → fixed ≡ is_none found.chip_node
      → value_fault nodes found.node r found.desc fixed ≡ told → rail_fault nodes r found ≡ option_map of_rail told
  by_value fixed told right good same is =
      let value : value_fault nodes found.node r found.desc (is_none found.chip_node) ≡ told = subst (λ b. value_fault nodes found.node r found.desc b ≡ told) same is in
      rw (right, good, value) (or_none (option_map of_rail told))

-- want of memory alone is told as want of memory
pub of_rail-memory : (fault : RailFault) (told : BoardFault) → told ≡ of_rail fault → told ≢ Memory → fault ≢ RailMemory
of_rail-memory fault told is never same = never (is ∙ ap of_rail same)

pub none_by_some : {A : Type 0} (o : Option A) (none : Bool) → is_some o ≡ not none → none ≡ is_none o
none_by_some None true is = refl
none_by_some None false is = absurd (cc)
none_by_some (Some a) true is = absurd (cc)
none_by_some (Some a) false is = refl
