use Rattle.std.proofs.Common.{refl, arith}
use Rattle.std.proofs.lemmas.Result.{on_ok_weaker, IfErr-weaker}
use Rattle.dts_tree.proofs.TakeLemmas.{is_inner, went_token, fault_token}
use Rattle.dts_tree.proofs.reading.reader.Reader.take.Goals as goal

pub start-requires-clause-ready : goal.start-requires-clause-ready
start-requires-clause-ready c = record { kept = c.requires.kept; token = c.requires.token; fits = omega (arith, c.requires.token.1, c.requires.short); counted = c.requires.counted; inner = is_inner c.args.text.now c.args.token.now c.symbol_of-symbol.result c.inner_of-inner.result.now c.symbol_of-symbol.ensures c.inner_of-inner.ensures }

pub returns-in-Start : goal.returns-in-Start
returns-in-Start c = record {
  ok = on_ok_weaker c.start.result (went_token c.args.text.now c.args.token.now c.symbol_of-symbol.result c.inner_of-inner.result.now c.symbol_of-symbol.ensures c.inner_of-inner.ensures c.args.self.now _ _ c.in-Start.is refl _) c.start.ensures.ok;
  fault = IfErr-weaker c.start.result _ _ (fault_token c.args.text.now c.args.token.now c.symbol_of-symbol.result c.inner_of-inner.result.now c.symbol_of-symbol.ensures c.inner_of-inner.ensures c.args.self.now _ _ c.in-Start.is refl) c.start.ensures.fault;
}

pub semicolon-requires-clause-ready : goal.semicolon-requires-clause-ready
semicolon-requires-clause-ready c = record { kept = c.requires.kept; token = c.requires.token; fits = omega (arith, c.requires.token.1, c.requires.short); counted = c.requires.counted; inner = is_inner c.args.text.now c.args.token.now c.symbol_of-symbol.result c.inner_of-inner.result.now c.symbol_of-symbol.ensures c.inner_of-inner.ensures }

pub returns-in-Versioned : goal.returns-in-Versioned
returns-in-Versioned c = record {
  ok = on_ok_weaker c.semicolon.result (went_token c.args.text.now c.args.token.now c.symbol_of-symbol.result c.inner_of-inner.result.now c.symbol_of-symbol.ensures c.inner_of-inner.ensures c.args.self.now _ _ c.in-Versioned.is refl _) c.semicolon.ensures.ok;
  fault = IfErr-weaker c.semicolon.result _ _ (fault_token c.args.text.now c.args.token.now c.symbol_of-symbol.result c.inner_of-inner.result.now c.symbol_of-symbol.ensures c.inner_of-inner.ensures c.args.self.now _ _ c.in-Versioned.is refl) c.semicolon.ensures.fault;
}

pub inside-requires-clause-ready : goal.inside-requires-clause-ready
inside-requires-clause-ready c = record { kept = c.requires.kept; token = c.requires.token; fits = omega (arith, c.requires.token.1, c.requires.short); counted = c.requires.counted; inner = is_inner c.args.text.now c.args.token.now c.symbol_of-symbol.result c.inner_of-inner.result.now c.symbol_of-symbol.ensures c.inner_of-inner.ensures }

pub returns-in-Inside : goal.returns-in-Inside
returns-in-Inside c = record {
  ok = on_ok_weaker c.inside.result (went_token c.args.text.now c.args.token.now c.symbol_of-symbol.result c.inner_of-inner.result.now c.symbol_of-symbol.ensures c.inner_of-inner.ensures c.args.self.now _ _ c.in-Inside.is refl _) c.inside.ensures.ok;
  fault = IfErr-weaker c.inside.result _ _ (fault_token c.args.text.now c.args.token.now c.symbol_of-symbol.result c.inner_of-inner.result.now c.symbol_of-symbol.ensures c.inner_of-inner.ensures c.args.self.now _ _ c.in-Inside.is refl) c.inside.ensures.fault;
}

pub slashed-requires-clause-ready : goal.slashed-requires-clause-ready
slashed-requires-clause-ready c = record { kept = c.requires.kept; token = c.requires.token; fits = omega (arith, c.requires.token.1, c.requires.short); counted = c.requires.counted; inner = is_inner c.args.text.now c.args.token.now c.symbol_of-symbol.result c.inner_of-inner.result.now c.symbol_of-symbol.ensures c.inner_of-inner.ensures }

pub returns-in-Slashed : goal.returns-in-Slashed
returns-in-Slashed c = record {
  ok = on_ok_weaker c.slashed.result (went_token c.args.text.now c.args.token.now c.symbol_of-symbol.result c.inner_of-inner.result.now c.symbol_of-symbol.ensures c.inner_of-inner.ensures c.args.self.now _ _ c.in-Slashed.is refl _) c.slashed.ensures.ok;
  fault = IfErr-weaker c.slashed.result _ _ (fault_token c.args.text.now c.args.token.now c.symbol_of-symbol.result c.inner_of-inner.result.now c.symbol_of-symbol.ensures c.inner_of-inner.ensures c.args.self.now _ _ c.in-Slashed.is refl) c.slashed.ensures.fault;
}

pub brace-requires-clause-ready : goal.brace-requires-clause-ready
brace-requires-clause-ready c = record { kept = c.requires.kept; token = c.requires.token; fits = omega (arith, c.requires.token.1, c.requires.short); counted = c.requires.counted; inner = is_inner c.args.text.now c.args.token.now c.symbol_of-symbol.result c.inner_of-inner.result.now c.symbol_of-symbol.ensures c.inner_of-inner.ensures }

pub returns-in-Added : goal.returns-in-Added
returns-in-Added c = record {
  ok = on_ok_weaker c.brace.result (went_token c.args.text.now c.args.token.now c.symbol_of-symbol.result c.inner_of-inner.result.now c.symbol_of-symbol.ensures c.inner_of-inner.ensures c.args.self.now _ _ c.in-Added.is refl _) c.brace.ensures.ok;
  fault = IfErr-weaker c.brace.result _ _ (fault_token c.args.text.now c.args.token.now c.symbol_of-symbol.result c.inner_of-inner.result.now c.symbol_of-symbol.ensures c.inner_of-inner.ensures c.args.self.now _ _ c.in-Added.is refl) c.brace.ensures.fault;
}

pub semicolon-requires-in-Closed-clause-ready : goal.semicolon-requires-in-Closed-clause-ready
semicolon-requires-in-Closed-clause-ready c = record { kept = c.requires.kept; token = c.requires.token; fits = omega (arith, c.requires.token.1, c.requires.short); counted = c.requires.counted; inner = is_inner c.args.text.now c.args.token.now c.symbol_of-symbol.result c.inner_of-inner.result.now c.symbol_of-symbol.ensures c.inner_of-inner.ensures }

pub returns-in-Closed : goal.returns-in-Closed
returns-in-Closed c = record {
  ok = on_ok_weaker c.semicolon-in-Closed.result (went_token c.args.text.now c.args.token.now c.symbol_of-symbol.result c.inner_of-inner.result.now c.symbol_of-symbol.ensures c.inner_of-inner.ensures c.args.self.now _ _ c.in-Closed.is refl _) c.semicolon-in-Closed.ensures.ok;
  fault = IfErr-weaker c.semicolon-in-Closed.result _ _ (fault_token c.args.text.now c.args.token.now c.symbol_of-symbol.result c.inner_of-inner.result.now c.symbol_of-symbol.ensures c.inner_of-inner.ensures c.args.self.now _ _ c.in-Closed.is refl) c.semicolon-in-Closed.ensures.fault;
}

pub worded-requires-clause-ready : goal.worded-requires-clause-ready
worded-requires-clause-ready c = record { kept = c.requires.kept; token = c.requires.token; fits = omega (arith, c.requires.token.1, c.requires.short); counted = c.requires.counted; inner = is_inner c.args.text.now c.args.token.now c.symbol_of-symbol.result c.inner_of-inner.result.now c.symbol_of-symbol.ensures c.inner_of-inner.ensures }

pub returns-in-Worded : goal.returns-in-Worded
returns-in-Worded c = record {
  ok = on_ok_weaker c.worded.result (went_token c.args.text.now c.args.token.now c.symbol_of-symbol.result c.inner_of-inner.result.now c.symbol_of-symbol.ensures c.inner_of-inner.ensures c.args.self.now _ _ c.in-Worded.is refl _) c.worded.ensures.ok;
  fault = IfErr-weaker c.worded.result _ _ (fault_token c.args.text.now c.args.token.now c.symbol_of-symbol.result c.inner_of-inner.result.now c.symbol_of-symbol.ensures c.inner_of-inner.ensures c.args.self.now _ _ c.in-Worded.is refl) c.worded.ensures.fault;
}

pub behind-requires-clause-ready : goal.behind-requires-clause-ready
behind-requires-clause-ready c = record { kept = c.requires.kept; token = c.requires.token; fits = omega (arith, c.requires.token.1, c.requires.short); counted = c.requires.counted; inner = is_inner c.args.text.now c.args.token.now c.symbol_of-symbol.result c.inner_of-inner.result.now c.symbol_of-symbol.ensures c.inner_of-inner.ensures }

pub returns-in-Behind : goal.returns-in-Behind
returns-in-Behind c = record {
  ok = on_ok_weaker c.behind.result (went_token c.args.text.now c.args.token.now c.symbol_of-symbol.result c.inner_of-inner.result.now c.symbol_of-symbol.ensures c.inner_of-inner.ensures c.args.self.now _ _ c.in-Behind.is refl _) c.behind.ensures.ok;
  fault = IfErr-weaker c.behind.result _ _ (fault_token c.args.text.now c.args.token.now c.symbol_of-symbol.result c.inner_of-inner.result.now c.symbol_of-symbol.ensures c.inner_of-inner.ensures c.args.self.now _ _ c.in-Behind.is refl) c.behind.ensures.fault;
}

pub named-requires-clause-ready : goal.named-requires-clause-ready
named-requires-clause-ready c = record { kept = c.requires.kept; token = c.requires.token; fits = omega (arith, c.requires.token.1, c.requires.short); counted = c.requires.counted; inner = is_inner c.args.text.now c.args.token.now c.symbol_of-symbol.result c.inner_of-inner.result.now c.symbol_of-symbol.ensures c.inner_of-inner.ensures }

pub returns-in-Named : goal.returns-in-Named
returns-in-Named c = record {
  ok = on_ok_weaker c.named.result (went_token c.args.text.now c.args.token.now c.symbol_of-symbol.result c.inner_of-inner.result.now c.symbol_of-symbol.ensures c.inner_of-inner.ensures c.args.self.now _ _ c.in-Named.is refl _) c.named.ensures.ok;
  fault = IfErr-weaker c.named.result _ _ (fault_token c.args.text.now c.args.token.now c.symbol_of-symbol.result c.inner_of-inner.result.now c.symbol_of-symbol.ensures c.inner_of-inner.ensures c.args.self.now _ _ c.in-Named.is refl) c.named.ensures.fault;
}

pub valued-requires-clause-ready : goal.valued-requires-clause-ready
valued-requires-clause-ready c = record { kept = c.requires.kept; token = c.requires.token; fits = omega (arith, c.requires.token.1, c.requires.short); counted = c.requires.counted; inner = is_inner c.args.text.now c.args.token.now c.symbol_of-symbol.result c.inner_of-inner.result.now c.symbol_of-symbol.ensures c.inner_of-inner.ensures }

pub returns-in-Valued : goal.returns-in-Valued
returns-in-Valued c = record {
  ok = on_ok_weaker c.valued.result (went_token c.args.text.now c.args.token.now c.symbol_of-symbol.result c.inner_of-inner.result.now c.symbol_of-symbol.ensures c.inner_of-inner.ensures c.args.self.now _ _ c.in-Valued.is refl _) c.valued.ensures.ok;
  fault = IfErr-weaker c.valued.result _ _ (fault_token c.args.text.now c.args.token.now c.symbol_of-symbol.result c.inner_of-inner.result.now c.symbol_of-symbol.ensures c.inner_of-inner.ensures c.args.self.now _ _ c.in-Valued.is refl) c.valued.ensures.fault;
}

pub cells-requires-clause-ready : goal.cells-requires-clause-ready
cells-requires-clause-ready c = record { kept = c.requires.kept; token = c.requires.token; fits = omega (arith, c.requires.token.1, c.requires.short); counted = c.requires.counted; inner = is_inner c.args.text.now c.args.token.now c.symbol_of-symbol.result c.inner_of-inner.result.now c.symbol_of-symbol.ensures c.inner_of-inner.ensures }

pub returns-in-InCells : goal.returns-in-InCells
returns-in-InCells c = record {
  ok = on_ok_weaker c.cells.result (went_token c.args.text.now c.args.token.now c.symbol_of-symbol.result c.inner_of-inner.result.now c.symbol_of-symbol.ensures c.inner_of-inner.ensures c.args.self.now _ _ c.in-InCells.is refl _) c.cells.ensures.ok;
  fault = IfErr-weaker c.cells.result _ _ (fault_token c.args.text.now c.args.token.now c.symbol_of-symbol.result c.inner_of-inner.result.now c.symbol_of-symbol.ensures c.inner_of-inner.ensures c.args.self.now _ _ c.in-InCells.is refl) c.cells.ensures.fault;
}

pub bytes-requires-clause-ready : goal.bytes-requires-clause-ready
bytes-requires-clause-ready c = record { kept = c.requires.kept; token = c.requires.token; fits = omega (arith, c.requires.token.1, c.requires.short); counted = c.requires.counted; inner = is_inner c.args.text.now c.args.token.now c.symbol_of-symbol.result c.inner_of-inner.result.now c.symbol_of-symbol.ensures c.inner_of-inner.ensures }

pub returns-in-InBytes : goal.returns-in-InBytes
returns-in-InBytes c = record {
  ok = on_ok_weaker c.bytes.result (went_token c.args.text.now c.args.token.now c.symbol_of-symbol.result c.inner_of-inner.result.now c.symbol_of-symbol.ensures c.inner_of-inner.ensures c.args.self.now _ _ c.in-InBytes.is refl _) c.bytes.ensures.ok;
  fault = IfErr-weaker c.bytes.result _ _ (fault_token c.args.text.now c.args.token.now c.symbol_of-symbol.result c.inner_of-inner.result.now c.symbol_of-symbol.ensures c.inner_of-inner.ensures c.args.self.now _ _ c.in-InBytes.is refl) c.bytes.ensures.fault;
}

pub parted-requires-clause-ready : goal.parted-requires-clause-ready
parted-requires-clause-ready c = record { kept = c.requires.kept; token = c.requires.token; fits = omega (arith, c.requires.token.1, c.requires.short); counted = c.requires.counted; inner = is_inner c.args.text.now c.args.token.now c.symbol_of-symbol.result c.inner_of-inner.result.now c.symbol_of-symbol.ensures c.inner_of-inner.ensures }

pub returns-in-Parted : goal.returns-in-Parted
returns-in-Parted c = record {
  ok = on_ok_weaker c.parted.result (went_token c.args.text.now c.args.token.now c.symbol_of-symbol.result c.inner_of-inner.result.now c.symbol_of-symbol.ensures c.inner_of-inner.ensures c.args.self.now _ _ c.in-Parted.is refl _) c.parted.ensures.ok;
  fault = IfErr-weaker c.parted.result _ _ (fault_token c.args.text.now c.args.token.now c.symbol_of-symbol.result c.inner_of-inner.result.now c.symbol_of-symbol.ensures c.inner_of-inner.ensures c.args.self.now _ _ c.in-Parted.is refl) c.parted.ensures.fault;
}
