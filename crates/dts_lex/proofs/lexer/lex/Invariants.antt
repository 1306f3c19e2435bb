use Rattle.std.proofs.Common.{◌≡◌, ◌≤◌, ◌-◌, length}
use Rattle.dts_lex.specs.Lex.{comma_alone, in_cells}
use Rattle.dts_lex.proofs.LexLemmas.{Remains}
use Rattle.dts_lex.proofs.lexer.lex.Given as goal

abbrev pub invariant-loop-at : goal.invariant-loop-at
invariant-loop-at l = record {
  inside : l.at ≤ length l.text;
  left : Remains l.text l.tokens.items l.at;
  comma : l.comma_alone ≡ comma_alone l.text l.tokens.items;
  cells : l.in_cells ≡ in_cells l.text l.tokens.items;
}

abbrev pub decreases-loop-at : goal.decreases-loop-at
decreases-loop-at l = length l.text - l.at
