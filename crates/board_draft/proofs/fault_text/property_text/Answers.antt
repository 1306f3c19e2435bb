-- The name of a property is a text, so it can't be refused as one.
use Rattle.std.proofs.Common.{arith}
use Rattle.std.specs.Str.{IsUtf8}
use Rattle.constraints.specs.Prop.{name_of}
use Rattle.board_draft.proofs.PropertyNames.{IsUtf8-name}
use Rattle.board_draft.proofs.fault_text.property_text.Goals as goal

pub unwrap-requires : goal.unwrap-requires
unwrap-requires c =
    let text : IsUtf8 (name_of c.in_default.named) = IsUtf8-name c.in_default.named in
    grind (arith, text, c.name.ensures, c.from_utf8.ensures.cases)
