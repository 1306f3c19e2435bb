-- The bytes of tokens that say bytes.
use Rattle.std.specs.Prelude.{ℕ, ◌+◌, ◌-◌, List, slice_range}
use Rattle.dts_lex.specs.declared.token.Kind.{Kind}
use Rattle.dts_lex.specs.declared.token.Kind.TheVariants as kind
use Rattle.dts_lex.specs.declared.token.Token.{Token}

-- by a token's kind: a reference without its ampersand, a string without its quotes
abbrev pub inner_by : Kind → List ℕ → Token → List ℕ
inner_by kind.Ref text t = slice_range text (t.start + 1) t.end
inner_by kind.Text text t = slice_range text (t.start + 1) (t.end - 1)
inner_by kind.Word text t = slice_range text t.start t.end
inner_by kind.Number text t = slice_range text t.start t.end
inner_by kind.Directive text t = slice_range text t.start t.end
inner_by kind.Sign text t = slice_range text t.start t.end

abbrev pub inner_of : List ℕ → Token → List ℕ
inner_of text t = inner_by t.kind text t
