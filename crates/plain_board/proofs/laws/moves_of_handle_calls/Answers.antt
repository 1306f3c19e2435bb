use Rattle.plain_board.proofs.HandleMoves.{enable_plan, disable_plan, release_plan, enable_switches, disable_switches, release_switches, chain_once}
use Rattle.plain_board.proofs.laws.moves_of_handle_calls.Goals as goal

pub returns : goal.returns
returns c = record {
  enable = enable_plan;
  disable = disable_plan;
  release = release_plan;
  enabled = λ board plain worker handle made valid no_loads chips hold. enable_switches board valid.sound plain chips hold worker no_loads handle made;
  disabled = λ board plain worker handle made valid no_loads chips hold. disable_switches board valid.sound plain chips hold worker no_loads handle made;
  released = λ board plain worker made valid chips hold. release_switches board valid.sound plain chips hold worker made;
  once = chain_once;
}
