-- No session has a fault; a text has at most one first fault and one meaning.
use Rattle.std.proofs.Common.{ℕ, ◌≡◌, List, [], map, sym, ap, ◌∙◌, subst, arith, ⊎_elim}
use Rattle.std.specs.Prelude.{Option, Some, None, Result, Ok, Err}
use Rattle.board.specs.declared.board.Board.{Board}
use Rattle.board_graph.specs.declared.graph.Graph.{Graph}
use Rattle.board_graph.specs.Order.{IsOrder}
use Rattle.board_draft.specs.declared.drafted.Drafted.{Drafted}
use Rattle.board_draft.specs.Faults.{first_fault}
use Rattle.board_draft.specs.Sketch.{trimmed}
use Rattle.board_load.specs.declared.loaded.Loaded.{Loaded}
use Rattle.board_load.specs.Loading.{load, loaded_at, board_at}
use Rattle.board_load.specs.Start.{targets}
use Rattle.dts_lex.specs.declared.fault.LexFault.{LexFault}
use Rattle.dts_lex.specs.declared.token.Token.{Token}
use Rattle.dts_lex.specs.Lex.{lexed}
use Rattle.dts_tree.specs.declared.fault.TreeFault.{TreeFault}
use Rattle.dts_tree.specs.Laws.{OneOutcome}
use Rattle.dts_tree.specs.Tree.{Node}
use Rattle.session.specs.declared.fault.SessionFault.{SessionFault}
use Rattle.session.specs.declared.fault.SessionKind.{SessionKind}
use Rattle.session.specs.declared.session.Session.{Session}
use Rattle.session.specs.declared.setup.Setup.{Setup}
use Rattle.session.specs.BoardText.{text_of, NodesCome, OutcomeComes, TokensCome, BoardComes, of_board}
use Rattle.session.specs.Frame.{BoardPart, Demo, Text, Frame}
use Rattle.session.specs.Grammar.{AreFrame, LeavesSession}
use Rattle.session.specs.Laws.{trimmed_board, SayTheSame}
use Rattle.session.specs.Lines.{lines_of, unended}
use Rattle.session.specs.Loading.{found_regs, refusals_in, setup_fault, loading_fault, lines_before_setup}
use Rattle.session.specs.Session.{IsSession, FirstFault, IsTooLong, IsBadFrame, IsBadBoard, IsBadLoad, HasFrame, HasBoard}
use Rattle.session.proofs.DemoBoards.{demo_is}
use Rattle.session.proofs.Tests.{mapped_some}
use Rattle.session.proofs.Trimmed.{fault_same, targets_same, writes_same, plain_same, board_same}

-- the order of a graph is one
abbrev pub OneOrder : Type 0
OneOrder = (graph : Graph) (order other : List ℕ) → IsOrder graph order → IsOrder graph other → order ≡ other

-- what is known of the frames of lines
pub record FramesAreOne : Type 0 where
  pub one_frame : (lines : List (List ℕ)) (rest : List ℕ) (first second : Frame) → AreFrame lines rest first → AreFrame lines rest second → first ≡ second
  pub frames_stay : (lines : List (List ℕ)) (rest : List ℕ) (frame : Frame) (line : ℕ) (kind : SessionKind) → AreFrame lines rest frame → LeavesSession lines rest line kind → ⊥
  pub one_leaving : (lines : List (List ℕ)) (rest : List ℕ) (line other : ℕ) (kind kind' : SessionKind) → LeavesSession lines rest line kind → LeavesSession lines rest other kind' → (line ≡ other) × (kind ≡ kind')

-- two boards with their resets are one but for the bytes that names don't use
pub record AreOne (first second : Drafted) : Type 0 where
  pub boards : trimmed_board first.board ≡ trimmed_board second.board
  pub resets : first.resets ≡ second.resets

-- they are one where all is but for those bytes and the order, which the graph tells
same_order : OneOrder → (first second : Board) → IsOrder first.graph first.order → IsOrder second.graph second.order
    → record first { rails = map trimmed first.rails; order = [] } ≡ record second { rails = map trimmed second.rails; order = [] } → trimmed_board first ≡ trimmed_board second
same_order one first second ordered ordered' same =
    let graphs : first.graph ≡ second.graph = ap (λ (b : Board). b.graph) same in
    let orders : first.order ≡ second.order = one second.graph first.order second.order (subst (λ graph. IsOrder graph first.order) graphs ordered) ordered' in
    ap (λ (b : Board). record b { order = first.order }) same
    ∙ ap (λ order. record second { rails = map trimmed second.rails; order = order }) orders

none_some : {A : Type 0} (o : Option A) (x : A) → o ≡ None → o ≡ Some x → ⊥
none_some o x none some = let wrong = sym none ∙ some in cc

some_one : {A : Type 0} (o : Option A) (x y : A) → o ≡ Some x → o ≡ Some y → x ≡ y
some_one o x y first second = let both = sym first ∙ second in grind arith

module _ (one_order : OneOrder) (one_outcome : OneOutcome) where
  -- what nodes come to is one
  one_draft : (nodes : List Node) (first second : Drafted) → NodesCome nodes (Ok first) → NodesCome nodes (Ok second) → AreOne first second
  one_draft nodes first second is is' = record {
    boards = same_order one_order first.board second.board is.valid.sound.order is'.valid.sound.order (is.board ∙ sym is'.board);
    resets = is.resets ∙ sym is'.resets;
  }

  no_draft : (nodes : List Node) (drafted : Drafted) (fault : SessionFault) → NodesCome nodes (Ok drafted) → NodesCome nodes (Err fault) → ⊥
  no_draft nodes drafted fault is faulty = none_some (first_fault nodes) faulty.0 is.none faulty.1

  one_refusal : (nodes : List Node) (first second : SessionFault) → NodesCome nodes (Err first) → NodesCome nodes (Err second) → first ≡ second
  one_refusal nodes first second faulty faulty' = faulty.2 ∙ ap of_board (some_one (first_fault nodes) faulty.0 faulty'.0 faulty.1 faulty'.1) ∙ sym faulty'.2

  -- and so is what comes of an outcome
  one_drafted : (text : List ℕ) (outcome : Result (List Node) TreeFault) (first second : Drafted) → OutcomeComes text outcome (Ok first) → OutcomeComes text outcome (Ok second) → AreOne first second
  one_drafted text (Ok nodes) first second is is' = one_draft nodes first second is is'
  one_drafted text (Err fault) first second is is' = cc

  not_both : (text : List ℕ) (outcome : Result (List Node) TreeFault) (drafted : Drafted) (fault : SessionFault) → OutcomeComes text outcome (Ok drafted) → OutcomeComes text outcome (Err fault) → ⊥
  not_both text (Ok nodes) drafted fault is faulty = no_draft nodes drafted fault is faulty
  not_both text (Err wrong) drafted fault is faulty = cc

  one_refused : (text : List ℕ) (outcome : Result (List Node) TreeFault) (first second : SessionFault) → OutcomeComes text outcome (Err first) → OutcomeComes text outcome (Err second) → first ≡ second
  one_refused text (Ok nodes) first second faulty faulty' = one_refusal nodes first second faulty faulty'
  one_refused text (Err wrong) first second faulty faulty' = let both = faulty ∙ sym faulty' in grind arith

  same_outcome : (text : List ℕ) (tokens : List Token) (come : Result Drafted SessionFault) → TokensCome text (Ok tokens) come → OutcomeComes text (one_outcome text tokens).0 come
  same_outcome text tokens come (outcome, is, comes) =
      let one = one_outcome text tokens in
      subst (λ o. OutcomeComes text o come) (one.1.1 outcome is) comes

  -- and what comes of a text
  texts_one : (text : List ℕ) (read : Result (List Token) LexFault) (first second : Drafted) → TokensCome text read (Ok first) → TokensCome text read (Ok second) → AreOne first second
  texts_one text (Ok tokens) first second is is' =
      one_drafted text (one_outcome text tokens).0 first second (same_outcome text tokens (Ok first) is) (same_outcome text tokens (Ok second) is')
  texts_one text (Err fault) first second is is' = cc

  texts_not_both : (text : List ℕ) (read : Result (List Token) LexFault) (drafted : Drafted) (fault : SessionFault) → TokensCome text read (Ok drafted) → TokensCome text read (Err fault) → ⊥
  texts_not_both text (Ok tokens) drafted fault is faulty =
      not_both text (one_outcome text tokens).0 drafted fault (same_outcome text tokens (Ok drafted) is) (same_outcome text tokens (Err fault) faulty)
  texts_not_both text (Err wrong) drafted fault is faulty = cc

  texts_one_fault : (text : List ℕ) (read : Result (List Token) LexFault) (first second : SessionFault) → TokensCome text read (Err first) → TokensCome text read (Err second) → first ≡ second
  texts_one_fault text (Ok tokens) first second faulty faulty' =
      one_refused text (one_outcome text tokens).0 first second (same_outcome text tokens (Err first) faulty) (same_outcome text tokens (Err second) faulty')
  texts_one_fault text (Err wrong) first second faulty faulty' = let both = faulty ∙ sym faulty' in grind arith

  -- and what the board of a session comes to
  boards_one : (board : BoardPart) (first second : Drafted) → BoardComes board (Ok first) → BoardComes board (Ok second) → AreOne first second
  boards_one Demo first second is is' = record {
    boards = demo_is first.board is.board ∙ sym (demo_is second.board is'.board);
    resets = is.resets ∙ sym is'.resets;
  }
  boards_one (Text lines) first second is is' = texts_one (text_of lines) (lexed (text_of lines)) first second is is'

  boards_not_both : (board : BoardPart) (drafted : Drafted) (fault : SessionFault) → BoardComes board (Ok drafted) → BoardComes board (Err fault) → ⊥
  boards_not_both Demo drafted fault is faulty = faulty
  boards_not_both (Text lines) drafted fault is faulty = texts_not_both (text_of lines) (lexed (text_of lines)) drafted fault is faulty

  boards_one_fault : (board : BoardPart) (first second : SessionFault) → BoardComes board (Err first) → BoardComes board (Err second) → first ≡ second
  boards_one_fault Demo first second faulty faulty' = absurd faulty
  boards_one_fault (Text lines) first second faulty faulty' = texts_one_fault (text_of lines) (lexed (text_of lines)) first second faulty faulty'

  -- what is refused of a board behind its text is one
  loads_one : (frame : Frame) (first second : Drafted) → AreOne first second → loading_fault frame first ≡ loading_fault frame second
  loads_one frame first second one =
      let before = lines_before_setup frame in
      let setup = frame.setup in
      let bare : record first { board = trimmed_board first.board } ≡ record second { board = trimmed_board second.board } =
      ap (λ (b : Board). record first { board = b }) one.boards ∙ ap (λ resets. record second { board = trimmed_board second.board; resets = resets }) one.resets in
      sym (fault_same before setup first) ∙ ap (setup_fault before setup) bare ∙ fault_same before setup second

  module _ (frames : FramesAreOne) (bytes : List ℕ) where
    one_frame : (first second : Frame) → HasFrame bytes first → HasFrame bytes second → first ≡ second
    one_frame first second has has' = frames.one_frame (lines_of bytes) (unended bytes) first second has.lines has'.lines

    -- the boards of one text, by one frame
    drafts_one : (first second : Frame) (drafted other : Drafted) → HasBoard bytes first drafted → HasBoard bytes second other → AreOne drafted other
    drafts_one first second drafted other has has' =
        boards_one second.board drafted other (subst (λ (f : Frame). BoardComes f.board (Ok drafted)) (one_frame first second has.has_frame has'.has_frame) has.board) has'.board

    faults_one : (first second : Frame) (drafted other : Drafted) → HasBoard bytes first drafted → HasBoard bytes second other → loading_fault first drafted ≡ loading_fault second other
    faults_one first second drafted other has has' =
        ap (λ f. loading_fault f drafted) (one_frame first second has.has_frame has'.has_frame) ∙ loads_one second drafted other (drafts_one first second drafted other has has')

    -- a text with a board has none of the faults before it
    no_bad_board : (frame : Frame) (drafted : Drafted) (fault : SessionFault) → HasBoard bytes frame drafted → IsBadBoard bytes fault → ⊥
    no_bad_board frame drafted fault has bad =
        boards_not_both bad.frame.board drafted fault (subst (λ (f : Frame). BoardComes f.board (Ok drafted)) (one_frame frame bad.frame has.has_frame bad.has) has.board) bad.board

    not_long : (frame : Frame) (fault : SessionFault) → HasFrame bytes frame → IsTooLong bytes fault → ⊥
    not_long frame fault has bad = omega (arith, has.short, bad.long)

    not_left : (frame : Frame) (fault : SessionFault) → HasFrame bytes frame → IsBadFrame bytes fault → ⊥
    not_left frame fault has bad = frames.frames_stay (lines_of bytes) (unended bytes) frame fault.line fault.kind has.lines bad.leaves

    pub no_fault : (session : Session) (fault : SessionFault) → IsSession bytes session → FirstFault bytes fault → ⊥
    no_fault session fault is faulty =
        ⊎_elim (not_long is.frame fault is.has.has_frame)
        (⊎_elim (not_left is.frame fault is.has.has_frame)
        (⊎_elim (no_bad_board is.frame is.drafted fault is.has)
        (λ bad. none_some (loading_fault is.frame is.drafted) fault is.none (faults_one is.frame bad.frame is.drafted bad.drafted is.has bad.has ∙ bad.refused))))
        faulty

    fault_parts : (first second : SessionFault) → (first.line ≡ second.line) × (first.kind ≡ second.kind) → first ≡ second
    fault_parts first second same =
        let with_line : ℕ → SessionFault = λ n. record { line = n; kind = first.kind } in
        let with_kind : SessionKind → SessionFault = λ k. record { line = second.line; kind = k } in
        ap with_line same.0 ∙ ap with_kind same.1

    same_long : (first second : SessionFault) → IsTooLong bytes first → FirstFault bytes second → first ≡ second
    same_long first second bad faulty =
        ⊎_elim (λ long. bad.is ∙ sym long.is)
        (⊎_elim (λ left. absurd (omega (arith, bad.long, left.short)))
        (⊎_elim (λ board. absurd (not_long board.frame first board.has bad))
        (λ loaded. absurd (not_long loaded.frame first loaded.has.has_frame bad))))
        faulty

    same_left : (first second : SessionFault) → IsBadFrame bytes first → FirstFault bytes second → first ≡ second
    same_left first second bad faulty =
        ⊎_elim (λ long. absurd (omega (arith, long.long, bad.short)))
        (⊎_elim (λ left. fault_parts first second (frames.one_leaving (lines_of bytes) (unended bytes) first.line second.line first.kind second.kind bad.leaves left.leaves))
        (⊎_elim (λ board. absurd (not_left board.frame first board.has bad))
        (λ loaded. absurd (not_left loaded.frame first loaded.has.has_frame bad))))
        faulty

    same_board : (first second : SessionFault) → IsBadBoard bytes first → FirstFault bytes second → first ≡ second
    same_board first second bad faulty =
        ⊎_elim (λ long. absurd (not_long bad.frame second bad.has long))
        (⊎_elim (λ left. absurd (not_left bad.frame second bad.has left))
        (⊎_elim (λ board. boards_one_fault board.frame.board first second (subst (λ (f : Frame). BoardComes f.board (Err first)) (one_frame bad.frame board.frame bad.has board.has) bad.board) board.board)
        (λ loaded. absurd (no_bad_board loaded.frame loaded.drafted first loaded.has bad))))
        faulty

    same_load : (first second : SessionFault) → IsBadLoad bytes first → FirstFault bytes second → first ≡ second
    same_load first second bad faulty =
        ⊎_elim (λ long. absurd (not_long bad.frame second bad.has.has_frame long))
        (⊎_elim (λ left. absurd (not_left bad.frame second bad.has.has_frame left))
        (⊎_elim (λ board. absurd (no_bad_board bad.frame bad.drafted second bad.has board))
        (λ loaded. some_one (loading_fault bad.frame bad.drafted) first second bad.refused (faults_one bad.frame loaded.frame bad.drafted loaded.drafted bad.has loaded.has ∙ loaded.refused))))
        faulty

    pub one_fault : (first second : SessionFault) → FirstFault bytes first → FirstFault bytes second → first ≡ second
    one_fault first second faulty faulty' =
        ⊎_elim (λ long. same_long first second long faulty')
        (⊎_elim (λ left. same_left first second left faulty')
        (⊎_elim (λ board. same_board first second board faulty')
        (λ loaded. same_load first second loaded faulty')))
        faulty

    regs_one : (setup : List Setup) (first second : Drafted) → AreOne first second → found_regs first setup ≡ found_regs second setup
    regs_one setup first second one =
        let bare : record first { board = trimmed_board first.board } ≡ record second { board = trimmed_board second.board } =
        ap (λ (b : Board). record first { board = b }) one.boards ∙ ap (λ resets. record second { board = trimmed_board second.board; resets = resets }) one.resets in
        ap (λ (d : Drafted). found_regs d setup) bare

    -- boards that are one are loaded to one
    module _ (board other : Board) (same : trimmed_board board ≡ trimmed_board other) (regs : List (List ℕ)) (loaded loaded' : Loaded) (is : load board regs ≡ Some loaded) (is' : load other regs ≡ Some loaded') where
      goes : (values : List ℕ) × (targets board regs ≡ Some values) × (loaded_at board regs values ≡ loaded)
      goes = mapped_some (loaded_at board regs) (targets board regs) loaded is

      goes' : (values : List ℕ) × (targets other regs ≡ Some values) × (loaded_at other regs values ≡ loaded')
      goes' = mapped_some (loaded_at other regs) (targets other regs) loaded' is'

      one_target : goes'.0 ≡ goes.0
      one_target =
          some_one (targets other regs) goes'.0 goes.0 goes'.1
          (sym (targets_same other regs) ∙ ap (λ (b : Board). targets b regs) (sym same) ∙ targets_same board regs ∙ goes.1)

      loaded_is' : loaded_at other regs goes.0 ≡ loaded'
      loaded_is' = ap (loaded_at other regs) (sym one_target) ∙ goes'.2

      boards_same : trimmed_board loaded.board ≡ trimmed_board loaded'.board
      boards_same =
          ap (λ (l : Loaded). trimmed_board l.board) (sym goes.2)
          ∙ board_same board regs goes.0 ∙ ap (λ (b : Board). board_at b goes.0) same ∙ sym (board_same other regs goes.0)
          ∙ ap (λ (l : Loaded). trimmed_board l.board) loaded_is'

      writes_one : loaded.writes ≡ loaded'.writes
      writes_one =
          ap (λ (l : Loaded). l.writes) (sym goes.2)
          ∙ sym (writes_same board regs goes.0) ∙ ap (λ (b : Board). (loaded_at b regs goes.0).writes) same ∙ writes_same other regs goes.0
          ∙ ap (λ (l : Loaded). l.writes) loaded_is'

      plain_one : loaded.plain ≡ loaded'.plain
      plain_one =
          ap (λ (l : Loaded). l.plain) (sym goes.2)
          ∙ sym (plain_same board regs goes.0) ∙ ap (λ (b : Board). (loaded_at b regs goes.0).plain) same ∙ plain_same other regs goes.0
          ∙ ap (λ (l : Loaded). l.plain) loaded_is'

    pub one_session : (first second : Session) → IsSession bytes first → IsSession bytes second → SayTheSame first second
    one_session first second is is' =
        let frame = one_frame is.frame is'.frame is.has.has_frame is'.has.has_frame in
        let one = drafts_one is.frame is'.frame is.drafted is'.drafted is.has is'.has in
        let setup : is.frame.setup ≡ is'.frame.setup = ap (λ (f : Frame). f.setup) frame in
        let regs = found_regs is.drafted is.frame.setup in
        let same : found_regs is'.drafted is'.frame.setup ≡ regs = sym (regs_one is.frame.setup is.drafted is'.drafted one ∙ ap (found_regs is'.drafted) setup) in
        let loaded' : load is'.drafted.board regs ≡ Some second.loaded = ap (load is'.drafted.board) (sym same) ∙ is'.loaded in
        record {
          boards = boards_same is.drafted.board is'.drafted.board one.boards regs first.loaded second.loaded is.loaded loaded';
          writes = writes_one is.drafted.board is'.drafted.board one.boards regs first.loaded second.loaded is.loaded loaded';
          plain = plain_one is.drafted.board is'.drafted.board one.boards regs first.loaded second.loaded is.loaded loaded';
          refusals = is.refusals ∙ ap refusals_in setup ∙ sym is'.refusals;
          scripts = sym is.scripts ∙ ap (λ (f : Frame). f.workers) frame ∙ is'.scripts;
        }
