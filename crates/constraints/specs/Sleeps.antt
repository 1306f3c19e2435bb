-- What a rail's node asks of a suspended board.
use Rattle.std.specs.Prelude.{ℕ, Bool, true, false, not, ◌&&◌, ◌==◌, List, [], ◌∷◌, map, Option, None, Some, codes}
use Rattle.std.specs.List.{list_any}
use Rattle.std.specs.Option.{is_some, option_map, option_map_or, option_and_then}
use Rattle.board.specs.declared.desc.Desc.{Desc}
use Rattle.board.specs.declared.sleep.Sleep.{Sleep}
use Rattle.board.specs.declared.table.Table.{Table}
use Rattle.board.specs.Table.{values_of}
use Rattle.board.specs.Rail.{is_within}
use Rattle.dts_tree.specs.Tree.{Node}
use Rattle.dts_tree.specs.Look.{property_at}
use Rattle.dts_nodes.specs.declared.form.Form.{Form}
use Rattle.dts_nodes.specs.Forms.{number_at, is_wrong, told_by}
use Rattle.dts_nodes.specs.Use.{good_child_of}
use Rattle.constraints.specs.declared.prop.Prop.TheVariants.{SuspendMicrovolt}
use Rattle.constraints.specs.Prop.{name_of}
use Rattle.constraints.specs.Bounds.{bounds_at}

-- the names of the nodes for a board in standby, with its memory kept, and with its memory on the disk
abbrev pub state_names : List (List ℕ)
state_names = codes "regulator-state-standby" ∷ codes "regulator-state-mem" ∷ codes "regulator-state-disk" ∷ []

-- those nodes of a rail's node, where they are there with a good status
abbrev pub state_nodes : List Node → ℕ → List (Option ℕ)
state_nodes nodes node = map (good_child_of nodes node) state_names

-- the node has the property, whatever its value
abbrev pub has : List Node → ℕ → List ℕ → Bool
has nodes node name = is_some (property_at nodes node name)

-- on, off, or neither; where both are asked for, on wins
abbrev pub on_asked : Bool → Bool → Option Bool
on_asked true off = Some true
on_asked false true = Some false
on_asked false false = None

-- the value of a state's node, in µV
abbrev pub suspend_value : List Node → ℕ → Form ℕ
suspend_value nodes state = number_at nodes state (name_of SuspendMicrovolt)

-- what a state's node asks
abbrev pub sleep_of : List Node → ℕ → Sleep
sleep_of nodes state = record {
  on = on_asked (has nodes state (codes "regulator-on-in-suspend")) (has nodes state (codes "regulator-off-in-suspend"));
  uv = told_by (suspend_value nodes state);
}

-- what is asked in standby, mem and disk
abbrev pub sleeps_at : List Node → ℕ → List (Option Sleep)
sleeps_at nodes node = map (option_map (sleep_of nodes)) (state_nodes nodes node)

-- the value of a state's node, where that is there, has another form than it should
abbrev pub is_wrong_value : List Node → Option ℕ → Bool
is_wrong_value nodes state = option_map_or (λ k. is_wrong (suspend_value nodes k)) state false

-- the value of one of the states has another form than it should
abbrev pub has_wrong_suspend : List Node → ℕ → Bool
has_wrong_suspend nodes node = list_any (is_wrong_value nodes) (state_nodes nodes node)

-- the value is none of the table, or isn't within the bounds
abbrev pub is_out_of : Table → Option (ℕ × ℕ) → ℕ → Bool
is_out_of table bounds uv = not (list_any (λ pair. pair.1 == uv) (values_of table) && is_within bounds uv)

-- what a sleep asks has a value that is out of a table or out of bounds
abbrev pub is_bad_sleep : Table → Option (ℕ × ℕ) → Option Sleep → Bool
is_bad_sleep table bounds sleep = option_map_or (is_out_of table bounds) (option_and_then (λ (s : Sleep). s.uv) sleep) false

-- a rail with a selector for suspended boards is to have such a value
abbrev pub has_bad_sleep : Desc → Option (ℕ × ℕ) → List (Option Sleep) → Bool
has_bad_sleep desc bounds sleeps = is_some desc.suspend_selector && list_any (is_bad_sleep desc.table bounds) sleeps

-- the same of a rail's node
abbrev pub has_bad_suspend : List Node → ℕ → Desc → Bool
has_bad_suspend nodes node desc = has_bad_sleep desc (bounds_at nodes node) (sleeps_at nodes node)
