-- Lines, registers, refusals and texts of sessions, worked out by hand.
use Rattle.std.proofs.Common.{◌≡◌, ℕ, Bool, true, false, List, [], ◌∷◌, ◌++◌, codes, Some, None, refl}
use Rattle.std.specs.Fmt.{digits}
use Rattle.chip_regs.specs.Registers.{byte_of, with_byte}
use Rattle.board_graph.specs.declared.graph.Graph.{Graph}
use Rattle.board.specs.declared.board.Board.{Board}
use Rattle.board.specs.declared.rail.Rail.{Rail}
use Rattle.board.specs.declared.table.Table.TheVariants.{Ranges}
use Rattle.board_draft.specs.declared.drafted.Drafted.{Drafted}
use Rattle.board_draft.specs.declared.fault.BoardFault.TheVariants.{OneBound}
use Rattle.board_load.specs.Demo.{low_bits}
use Rattle.session.specs.declared.fault.SessionKind.TheVariants.{TooLong, BadSession, NotYet, TooManyWorkers, TooManyLines, BadChar, Unclosed, NumberTooWide, Syntax, NoLabel, TwoLabels, NotSupported, TooDeep, Board as BoardKind, BadReg, NoVector, Memory}
use Rattle.session.specs.declared.setup.Setup.{Setup}
use Rattle.session.specs.declared.setup.Setup.TheVariants.{Register, Refusal}
use Rattle.session.specs.BoardText.{text_of, line_at}
use Rattle.session.specs.Frame.{Frame, Demo, Text}
use Rattle.session.specs.Loading.{bad_register, found_regs, is_unbuilt, lines_before_setup, loading_fault, refusals_in}
use Rattle.session.specs.Text.{kind_text, refusal_text}

-- the text `ab`, an empty line, `c`: it begins at line 3, a newline is of the line that it ends, and the end is on `%end`
abbrev three_lines : List ℕ
three_lines = text_of (codes "ab" ∷ [] ∷ codes "c" ∷ [])

first_byte : line_at three_lines 0 ≡ 3
first_byte = refl

its_newline : line_at three_lines 2 ≡ 3
its_newline = refl

an_empty_line : line_at three_lines 3 ≡ 4
an_empty_line = refl

the_last_line : line_at three_lines 4 ≡ 5
the_last_line = refl

its_end : line_at three_lines 6 ≡ 6
its_end = refl

-- the setup of a board of two chips: `%reg 0`, `%fault 1 1`, `%reg 1`, `%reg 2`, `%fault 0 7`
abbrev setup : List Setup
setup = Register 0 16 1 ∷ Refusal 1 1 ∷ Register 1 32 2 ∷ Register 2 48 3 ∷ Refusal 0 7 ∷ []

abbrev frame : Frame
frame = record { board = Text (codes "ab" ∷ [] ∷ codes "c" ∷ []); setup = setup; workers = [] }

-- the fourth of these lines names chip 2; it stands behind six lines
before_it : lines_before_setup frame ≡ 6
before_it = refl

behind_the_built_in : lines_before_setup (record frame { board = Demo }) ≡ 2
behind_the_built_in = refl

a_third_chip : bad_register 2 6 setup ≡ Some (record { line = 10; kind = BadReg })
a_third_chip = refl

no_third_chip : bad_register 3 6 setup ≡ None
no_third_chip = refl

no_chip_at_all : bad_register 0 6 setup ≡ Some (record { line = 7; kind = BadReg })
no_chip_at_all = refl

-- the refusals, the load's among them
the_refusals : refusals_in setup ≡ (1, 1) ∷ (0, 7) ∷ []
the_refusals = refl

no_refusals : refusals_in (Register 0 16 1 ∷ []) ≡ []
no_refusals = refl

abbrev rail_with : Bool → Rail
rail_with counts = record {
  name = record { bytes = codes "a"; spare = [] };
  desc = record {
    table = Ranges (record { min = 600000; min_sel = 0; max_sel = 127; step = 6250 } ∷ []);
    selector = Some (low_bits 0x10 0x7f);
    enable = low_bits 0x20 0x01;
    modes = Some (low_bits 0x30 0x03);
    greatest = 3000000 ∷ 1000000 ∷ 50000 ∷ 5000 ∷ [];
    suspend_enable = None;
    suspend_selector = None;
    dropout = 0;
    ramp = 0;
    enable_time = 0;
  };
  limits = record {
    bounds = Some (800000, 1000000);
    always_on = false;
    boot_on = false;
    allow_load = counts;
    system_load = 0;
    times = record { ramp = 0; settle = 0; up = 0; down = 0 };
    enable_ramp = 0;
    allowed = record { 0 = 15 };
    initial = None;
    max_step = 0;
    sleeps = None ∷ None ∷ None ∷ [];
  };
  supply = None;
  group = 0;
  changeable = true;
  kept_uv = 0;
}

-- two rails, the second supplied by the first, in these groups, and the second linked to it or not
abbrev graph_with : ℕ → Bool → Graph
graph_with second linked = record { supply = None ∷ Some 0 ∷ []; group = 0 ∷ second ∷ []; link = false ∷ linked ∷ [] }

abbrev board_with : Graph → Bool → Board
board_with graph counts = record { rails = rail_with false ∷ rail_with counts ∷ []; spread = 0 ∷ 0 ∷ []; chips = 1; graph = graph; order = 0 ∷ 1 ∷ [] }

built : is_unbuilt (board_with (graph_with 1 false) false) ≡ false
built = refl

coupled : is_unbuilt (board_with (graph_with 0 false) false) ≡ true
coupled = refl

linked : is_unbuilt (board_with (graph_with 1 true) false) ≡ true
linked = refl

counting : is_unbuilt (board_with (graph_with 1 false) true) ≡ true
counting = refl

-- after a reset register 0x10 of the one chip holds 32
abbrev drafted : Board → Drafted
drafted board = record { board = board; resets = (0, 16, 32) ∷ [] }

abbrev plain_board : Board
plain_board = board_with (graph_with 1 false) false

abbrev content : List Setup → ℕ → ℕ
content setup reg = byte_of (found_regs (drafted plain_board) setup) 0 reg

after_reset : content [] 16 ≡ 32
unfolding with_byte byte_of
after_reset = refl

-- a content of the setup counts before that of the reset, and the later of two before the earlier
set_once : content (Register 0 16 7 ∷ []) 16 ≡ 7
unfolding with_byte byte_of
set_once = refl

set_twice : content (Register 0 16 7 ∷ Refusal 0 1 ∷ Register 0 16 9 ∷ []) 16 ≡ 9
unfolding with_byte byte_of
set_twice = refl

another_one : content (Register 0 17 7 ∷ []) 16 ≡ 32
unfolding with_byte byte_of
another_one = refl

-- a bad register is told before a board that isn't built
abbrev with_setup : List Setup → Frame
with_setup lines = record { board = Demo; setup = lines; workers = [] }

first_the_register : loading_fault (with_setup (Register 1 16 7 ∷ [])) (drafted (board_with (graph_with 0 false) false)) ≡ Some (record { line = 3; kind = BadReg })
first_the_register = refl

then_the_board : loading_fault (with_setup (Register 0 16 7 ∷ [])) (drafted (board_with (graph_with 0 false) false)) ≡ Some (record { line = 2; kind = NotYet })
then_the_board = refl

-- each kind in words
too_long_text : kind_text TooLong ≡ codes "toolong"
too_long_text = refl

bad_session_text : kind_text BadSession ≡ codes "badsession"
bad_session_text = refl

not_yet_text : kind_text NotYet ≡ codes "notyet"
not_yet_text = refl

too_many_workers_text : kind_text TooManyWorkers ≡ codes "toomanyworkers"
too_many_workers_text = refl

too_many_lines_text : kind_text TooManyLines ≡ codes "toomanylines"
too_many_lines_text = refl

bad_char_text : kind_text (BadChar 0) ≡ codes "badchar 0"
unfolding digits
bad_char_text = refl

unclosed_text : kind_text (Unclosed 12) ≡ codes "unclosed 12"
unfolding digits
unclosed_text = refl

number_too_wide_text : kind_text (NumberTooWide 345) ≡ codes "numbertoowide 345"
unfolding digits
number_too_wide_text = refl

syntax_text : kind_text (Syntax 4194304) ≡ codes "syntax 4194304"
unfolding digits
syntax_text = refl

no_label_text : kind_text (NoLabel 6) ≡ codes "nolabel 6"
unfolding digits
no_label_text = refl

two_labels_text : kind_text (TwoLabels 7) ≡ codes "twolabels 7"
unfolding digits
two_labels_text = refl

not_supported_text : kind_text (NotSupported 8) ≡ codes "notsupported 8"
unfolding digits
not_supported_text = refl

too_deep_text : kind_text (TooDeep 9) ≡ codes "toodeep 9"
unfolding digits
too_deep_text = refl

board_text : kind_text (BoardKind (OneBound 3)) ≡ codes "onebound 3"
unfolding digits
board_text = refl

bad_reg_text : kind_text BadReg ≡ codes "badreg"
bad_reg_text = refl

no_vector_text : kind_text (NoVector 63) ≡ codes "novector 63"
unfolding digits
no_vector_text = refl

memory_text : kind_text Memory ≡ []
memory_text = refl

-- the line of a refusal
a_line : refusal_text (record { line = 2; kind = BoardKind (OneBound 3) }) ≡ codes "refused 2 onebound 3" ++ 10 ∷ []
unfolding digits
a_line = refl
