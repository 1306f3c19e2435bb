-- The scripts of a session can be played on its board.
use Rattle.std.proofs.Common.{◌≡◌, ◌≢◌, ℕ, ◌<◌, ◌≤◌, List, [], ◌∷◌, length, map, Some, None, refl, sym, ap, ◌∙◌, subst, arith, inr}
use Rattle.std.specs.Prelude.{All, Ok, slice_get, slice_index}
use Rattle.std.specs.List.{enumerate_from}
use Rattle.std.specs.Option.{option_and_then}
use Rattle.std.proofs.lemmas.List.{length-map}
use Rattle.std.proofs.lemmas.List.Elements.{All-nil, All-cons, All-head, All-weaker}
use Rattle.board.specs.declared.board.Board.{Board}
use Rattle.board.specs.declared.part.Part.{Part}
use Rattle.board.specs.declared.rail.Rail.{Rail}
use Rattle.board.specs.Fields.{field_at}
use Rattle.board.specs.Lone.{IsLone, lone_graph}
use Rattle.board.specs.Rail.{part_field}
use Rattle.board.specs.Valid.{IsSoundRail, CarriesSystemLoad, IsPrinted, IsValid}
use Rattle.rows.specs.declared.call.Call.{Call}
use Rattle.rows.specs.declared.call.Call.TheVariants.{Open, Close, Enable, Disable, Set, Load, Get, IsOn, ModeOf, ListSel, Supported, Listen, Events, Suspend, Resume, ReleaseBoot}
use Rattle.rows.specs.Row.{NamesRail}
use Rattle.board_load.specs.declared.loaded.Loaded.{Loaded}
use Rattle.board_load.specs.Demo.{IsDemo}
use Rattle.board_load.specs.Loading.{board_at, load, loaded_at}
use Rattle.board_load.specs.Start.{targets}
use Rattle.plain_board.specs.Untied.{IsBuiltCall}
use Rattle.session.specs.Forms.{most_lines, AreBuiltLines}
use Rattle.session.specs.Frame.{BoardPart, Demo, Text}
use Rattle.session.specs.Loading.{found_regs}
use Rattle.session.specs.Script.{IsScript, Uses, call_line}
use Rattle.session.specs.Session.{ArePlayable}
use Rattle.session.specs.Inside.Loaded.{IsLoaded, TextComes}
use Rattle.session.specs.Inside.Read.{IsRead, Parts, board_text}
use Rattle.session.proofs.Tests.{mapped_some, unmapped}

-- a valid board whose one rail hangs on nothing is the least that there is
lone_of : (board : Board) (rail : Rail) → board.rails ≡ rail ∷ [] → rail.supply ≡ None → rail.group ≡ 0 → rail.limits.max_step ≡ 0
    → board.spread ≡ 0 ∷ [] → board.graph ≡ lone_graph → board.order ≡ 0 ∷ [] → IsValid board → IsLone board
lone_of board rail rails supply group steps spread graph order valid =
    let there : (part : Part) → field_at board 0 part ≡ part_field part rail = λ part. ap (λ rs. option_and_then (part_field part) (slice_get rs 0)) rails in
    record {
      rail = rail;
      rails = rails;
      sound = All-head (IsSoundRail board.chips) rail [] (subst (All (IsSoundRail board.chips)) rails valid.sound.rails);
      load = All-head CarriesSystemLoad rail [] (subst (All CarriesSystemLoad) rails valid.loads);
      printed = All-head (λ r. All IsPrinted r.name.bytes) rail [] (subst (All (λ r. All IsPrinted r.name.bytes)) rails valid.sound.names.printed);
      apart = λ part other f g differ first second. valid.sound.apart 0 0 part other f g (inr differ) (there part ∙ first) (there other ∙ second);
      supply = supply;
      group = group;
      steps = steps;
      spread = spread;
      graph = graph;
      order = order;
    }

demo_at : (board : Board) (values : List ℕ) → IsDemo board → IsValid (board_at board values) → IsLone (board_at board values)
demo_at board values demo valid =
    let kept : Rail = record demo.core { kept_uv = slice_index values 0 } in
    lone_of (board_at board values) kept
    (ap (λ (rails : List Rail). map (λ (rail : ℕ × Rail). record rail.1 { kept_uv = slice_index values rail.0 }) (enumerate_from 0 rails)) demo.rails)
    demo.is_core.supply demo.is_core.group demo.is_core.limits.max_step demo.spread demo.graph demo.order valid

-- the board of a load is the one that was loaded, with its values
board_of_load : (board : Board) (regs : List (List ℕ)) (loaded : Loaded) → load board regs ≡ Some loaded → (values : List ℕ) × (board_at board values ≡ loaded.board)
board_of_load board regs loaded is =
    let some = mapped_some (loaded_at board regs) (targets board regs) loaded is in
    (some.0, ap (λ (l : Loaded). l.board) some.2)

demo_is_lone : (board : Board) (regs : List (List ℕ)) (loaded : Loaded) → IsDemo board → load board regs ≡ Some loaded → IsValid loaded.board → IsLone loaded.board
demo_is_lone board regs loaded demo is valid =
    let at = board_of_load board regs loaded is in
    subst IsLone at.1 (demo_at board at.0 demo (subst IsValid (sym at.1) valid))

-- a script has calls that are built, on rail 0
use_is_built : (name : List ℕ) (call : Call) → Uses name call → IsBuiltCall call
use_is_built name (Set handle lo hi) uses = tt
use_is_built name (Get handle) uses = tt
use_is_built name (Open handle rail exclusive) uses = tt
use_is_built name (Close handle) uses = uses
use_is_built name (Enable handle) uses = uses
use_is_built name (Disable handle) uses = uses
use_is_built name (Load handle ua) uses = uses
use_is_built name (IsOn handle) uses = uses
use_is_built name (ModeOf handle) uses = uses
use_is_built name (ListSel handle sel) uses = uses
use_is_built name (Supported handle lo hi) uses = uses
use_is_built name (Listen handle) uses = uses
use_is_built name (Events handle) uses = uses
use_is_built name (Suspend state) uses = uses
use_is_built name Resume uses = uses
use_is_built name ReleaseBoot uses = uses

use_names_rail : (board : Board) (name : List ℕ) (call : Call) → Uses name call → NamesRail board call
use_names_rail board name (Open handle rail exclusive) uses = absurd uses
use_names_rail board name (Set handle lo hi) uses = tt
use_names_rail board name (Get handle) uses = tt
use_names_rail board name (Close handle) uses = tt
use_names_rail board name (Enable handle) uses = tt
use_names_rail board name (Disable handle) uses = tt
use_names_rail board name (Load handle ua) uses = tt
use_names_rail board name (IsOn handle) uses = tt
use_names_rail board name (ModeOf handle) uses = tt
use_names_rail board name (ListSel handle sel) uses = tt
use_names_rail board name (Supported handle lo hi) uses = tt
use_names_rail board name (Listen handle) uses = tt
use_names_rail board name (Events handle) uses = tt
use_names_rail board name (Suspend state) uses = tt
use_names_rail board name Resume uses = tt
use_names_rail board name ReleaseBoot uses = tt

script_is_built : (script : List Call) → IsScript script → All IsBuiltCall script
script_is_built [] is = All-nil IsBuiltCall
script_is_built (Open handle rail exclusive ∷ calls) is =
    All-cons IsBuiltCall (Open handle rail exclusive) calls tt (All-weaker (Uses handle.bytes) IsBuiltCall (use_is_built handle.bytes) calls is.3)
script_is_built (call ∷ calls) is = absurd is

script_names_rails : (board : Board) (script : List Call) → 0 < length board.rails → IsScript script → All (NamesRail board) script
script_names_rails board [] some is = All-nil (NamesRail board)
script_names_rails board (Open handle rail exclusive ∷ calls) some is =
    All-cons (NamesRail board) (Open handle rail exclusive) calls (omega (arith, is.1, some))
    (All-weaker (Uses handle.bytes) (NamesRail board) (use_names_rail board handle.bytes) calls is.3)
script_names_rails board (call ∷ calls) some is = absurd is

no_call : (script : List Call) → map call_line script ≡ [] → script ≡ []
no_call [] none = refl
no_call (call ∷ calls) none = cc

-- where there is a call, the board is the built-in one
lone_for : (part : BoardPart) (board : Board) (script : List Call) → ((part ≡ Demo) → IsLone board) → AreBuiltLines part (map call_line script) → script ≢ [] → IsLone board
lone_for Demo board script lone built some = lone refl
lone_for (Text lines) board script lone built some = absurd (some (no_call script built))

module _ (bytes : List ℕ) (parts : Parts) (loaded : Loaded) (read : IsRead bytes parts) (made : IsLoaded parts.text parts.setup loaded) (valid : IsValid loaded.board) where
  lone_where : read.frame.board ≡ Demo → IsLone loaded.board
  lone_where demo =
      let none : parts.text ≡ None = read.text ∙ ap board_text demo in
      let drafted = made.drafted in
      demo_is_lone drafted.board (found_regs drafted parts.setup) loaded (subst (λ text. TextComes text (Ok drafted)) none made.board).board made.made valid

  pub playable : ArePlayable loaded.board parts.scripts
  playable =
      let limits = read.is_frame.limits in
      let same = read.scripts in
      let count = ap length same in
      let mapped = length-map parts.scripts (map call_line) in
      let short = unmapped (λ (lines : List (List ℕ)). length lines ≤ most_lines) (map call_line) parts.scripts (subst (All (λ lines. length lines ≤ most_lines)) same limits.short) in
      let built = unmapped (AreBuiltLines read.frame.board) (map call_line) parts.scripts (subst (All (AreBuiltLines read.frame.board)) same limits.workers.built.workers) in
      record {
        few = omega (arith, limits.workers.few, count, mapped);
        short = All-weaker (λ script. length (map call_line script) ≤ most_lines) (λ script. length script ≤ most_lines) (λ script h. omega (arith, h, length-map script call_line)) parts.scripts short;
        calls = All-weaker IsScript (All IsBuiltCall) script_is_built parts.scripts read.calls;
        rails = All-weaker IsScript (All (NamesRail loaded.board)) (λ script is. script_names_rails loaded.board script valid.sound.some is) parts.scripts read.calls;
        lone = All-weaker (λ script. AreBuiltLines read.frame.board (map call_line script)) (λ script. script ≢ [] → IsLone loaded.board)
            (λ script is. lone_for read.frame.board loaded.board script lone_where is) parts.scripts built;
      }
