-- What a text sets, up to where it leaves the grammar.
use Rattle.std.specs.Prelude.{◌≡◌, ◌⊎◌, ℕ, ◌+◌, List, [], ◌∷◌, ◌++◌, Bool, true, false, ◌||◌, Option, Some, None, length, take, slice_get, if◌then◌else◌}
use Rattle.dts_lex.specs.declared.token.Kind.{Kind}
use Rattle.dts_lex.specs.declared.token.Kind.TheVariants as kind
use Rattle.dts_lex.specs.declared.token.Token.{Token}
use Rattle.dts_lex.specs.Shape.{is_last}
use Rattle.dts_tree.specs.declared.fault.TreeFault.{TreeFault}
use Rattle.dts_tree.specs.declared.fault.TreeFault.TheVariants.{Syntax, NotSupported}
use Rattle.dts_tree.specs.Lexeme.{lexeme_of}
use Rattle.dts_tree.specs.Setting.{Setting}
use Rattle.dts_tree.specs.Grammar.{Told, IsFile}

-- tokens as the grammar sees them
abbrev pub Reads : List ℕ → List Token → List Told → Type 0
Reads text [] [] = Unit {0}
Reads text [] (t ∷ ts) = ⊥
Reads text (k ∷ ks) [] = ⊥
Reads text (k ∷ ks) (t ∷ ts) = (t.lexeme ≡ lexeme_of text k) × (t.at ≡ k.start) × Reads text ks ts

-- what is there, or nothing
abbrev pub list_of : {X : Type 0} → Option X → List X
list_of None = []
list_of (Some x) = x ∷ []

-- what tokens set, in their order
abbrev pub set_by : List Told → List Setting
set_by [] = []
set_by (t ∷ ts) = list_of t.sets ++ set_by ts

-- others may follow such that the whole is a text
abbrev pub Begins : List Told → Type 0
Begins ts = (more : List Told) × IsFile (ts ++ more)

-- the tokens begin a text of the grammar
abbrev pub BeginText : List ℕ → List Token → Type 0
BeginText text tokens = (ts : List Told) × Reads text tokens ts × Begins ts

-- the tokens are a text of the grammar
abbrev pub AreText : List ℕ → List Token → Type 0
AreText text tokens = (ts : List Told) × Reads text tokens ts × IsFile ts

-- the tokens begin a text, and whatever text they begin, it sets this with them
pub record Tell (text : List ℕ) (tokens : List Token) (settings : List Setting) : Type 0 where
  pub begins : BeginText text tokens
  pub telling : (ts : List Told) → Reads text tokens ts → Begins ts → set_by ts ≡ settings

abbrev pub is_directive : Kind → Bool
is_directive kind.Directive = true
is_directive kind.Word = false
is_directive kind.Number = false
is_directive kind.Text = false
is_directive kind.Ref = false
is_directive kind.Sign = false

-- a token that can't come where it stands: directives and what lexing ends behind aren't supported
unfoldable pub fault_of : List ℕ → Token → TreeFault
fault_of text t = if is_directive t.kind || is_last text t then NotSupported t.start t.end else Syntax t.start

-- the first n tokens begin a text, and with the next one they don't
pub record Breaks (text : List ℕ) (tokens : List Token) (settings : List Setting) (fault : TreeFault) : Type 0 where
  pub n : ℕ
  pub token : Token
  pub there : slice_get tokens n ≡ Some token
  pub told : Tell text (take n tokens) settings
  pub wrong : BeginText text (take (n + 1) tokens) → ⊥
  pub named : fault ≡ fault_of text token

-- all tokens begin a text, and they aren't one
pub record EndsEarly (text : List ℕ) (tokens : List Token) (settings : List Setting) (fault : TreeFault) : Type 0 where
  pub told : Tell text tokens settings
  pub short : AreText text tokens → ⊥
  pub named : fault ≡ Syntax (length text)

-- what is set up to the first fault of grammar, and that fault
abbrev pub IsOutline : List ℕ → List Token → List Setting → Option TreeFault → Type 0
IsOutline text tokens settings None = Tell text tokens settings × AreText text tokens
IsOutline text tokens settings (Some fault) = Breaks text tokens settings fault ⊎ EndsEarly text tokens settings fault
