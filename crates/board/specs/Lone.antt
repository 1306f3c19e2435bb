-- A board of one rail, which is the least that there is.
use Rattle.std.specs.Prelude.{◌≡◌, ◌≢◌, false, [], ◌∷◌, All, Some, None}
use Rattle.chip_regs.specs.declared.field.Field.{Field}
use Rattle.chip_regs.specs.Field.{SharesBit}
use Rattle.board_graph.specs.declared.graph.Graph.{Graph}
use Rattle.board.specs.declared.board.Board.{Board}
use Rattle.board.specs.declared.part.Part.{Part}
use Rattle.board.specs.declared.rail.Rail.{Rail}
use Rattle.board.specs.Rail.{part_field}
use Rattle.board.specs.Valid.{IsSoundRail, CarriesSystemLoad, IsPrinted}

-- one rail without a supply, which is coupled with none
abbrev pub lone_graph : Graph
lone_graph = record { supply = None ∷ []; group = 0 ∷ []; link = false ∷ [] }

-- one rail that is sound and carries its load, has no supply and no greatest step, and whose fields share no bit
pub record IsLone (board : Board) : Type 0 where
  pub rail : Rail
  pub rails : board.rails ≡ rail ∷ []
  pub sound : IsSoundRail board.chips rail
  pub load : CarriesSystemLoad rail
  pub printed : All IsPrinted rail.name.bytes
  pub apart : (part other : Part) (f g : Field) → part ≢ other → part_field part rail ≡ Some f → part_field other rail ≡ Some g → ¬ SharesBit f g
  pub supply : rail.supply ≡ None
  pub group : rail.group ≡ 0
  pub steps : rail.limits.max_step ≡ 0
  pub spread : board.spread ≡ 0 ∷ []
  pub graph : board.graph ≡ lone_graph
  pub order : board.order ≡ 0 ∷ []
