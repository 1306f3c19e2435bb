-- The head and the board of a session as they were read, and what stands behind them.
use Rattle.std.proofs.Common.{ℕ, ◌≡◌, ◌≤◌, List, [], ◌∷◌, ◌++◌, length, Bool, Bor, Option, Some, None, Result, Ok, Err, IfOk, IfErr, refl, ap, ◌∙◌, sym, subst, arith, length-append}
use Rattle.std.specs.Prelude.{is_none}
use Rattle.std.specs.Option.{option_copied}
use Rattle.session.specs.declared.fault.SessionFault.{SessionFault}
use Rattle.session.specs.declared.progress.Progress.{Progress}
use Rattle.session.specs.Frame.{BoardPart, Demo, Text, end_line}
use Rattle.session.specs.Grammar.{LeavesSession}
use Rattle.session.specs.Lines.{lines_of, unended}
use Rattle.session.specs.Inside.Frames.{StandBefore, IsBoardRead, IsTextRead, IsTextFault, IsRestRead, IsRestFault}
use Rattle.session.specs.Inside.Progress.{is_demo, IsBehind, frame_of}
use Rattle.session.specs.Inside.Read.{board_text, IsRead, IsFaultOf}
use Rattle.session.proofs.Frames.{first_line, demo_line, dts_line}
use Rattle.session.proofs.Leaves.{lines_is, unended_is}
use Rattle.rows.proofs.Separators.{Lacks}

-- what follows of a value, and of an error
pub ok_then : {A E : Type 0} (r : Result A E) (P Q : A → Type 0) → IfOk r P → ((x : A) → P x → Q x) → IfOk r Q
ok_then (Ok x) P Q holds then = then x holds
ok_then (Err e) P Q holds then = tt

pub err_then : {A E : Type 0} (r : Result A E) (P Q : E → Type 0) → IfErr r P → ((e : E) → P e → Q e) → IfErr r Q
err_then (Ok x) P Q holds then = tt
err_then (Err e) P Q holds then = then e holds

-- behind the first line
pub head_stands : (bytes line rest : List ℕ) → bytes ≡ line ++ 10 ∷ rest → Lacks 10 line → line ≡ first_line → StandBefore bytes (first_line ∷ []) rest
head_stands bytes line rest cut whole same = record {
  before = lines_is bytes line rest cut whole ∙ ap (λ l. l ∷ lines_of rest) same;
  ended = unended_is bytes line rest cut whole;
}

-- behind the line of the board
pub board_stands : (bytes rest : List ℕ) → StandBefore bytes (first_line ∷ []) rest → (line more : List ℕ) → rest ≡ line ++ 10 ∷ more → Lacks 10 line → (keyword : List ℕ) → line ≡ keyword → StandBefore bytes (first_line ∷ keyword ∷ []) more
board_stands bytes rest stand line more cut whole keyword same = record {
  before = stand.before ∙ ap (λ ls. first_line ∷ ls) (lines_is rest line more cut whole ∙ ap (λ l. l ∷ lines_of more) same);
  ended = stand.ended ∙ unended_is rest line more cut whole;
}

pub demo_board : (bytes rest : List ℕ) → StandBefore bytes (first_line ∷ demo_line ∷ []) rest → length rest ≤ length bytes → IsBoardRead bytes None rest 3
demo_board bytes rest stand short = record {
  board = Demo;
  is_board = tt;
  told = refl;
  stand = stand;
  place = omega arith;
  room = omega (arith, short);
}

module _ (bytes rest : List ℕ) (stand : StandBefore bytes (first_line ∷ dts_line ∷ []) rest) where
  pub text_board : length rest ≤ length bytes → (text : Option (List ℕ)) (more : List ℕ) (number : ℕ) → IsTextRead rest text more number → IsBoardRead bytes text more number
  text_board short text more number read = record {
    board = Text read.lines;
    is_board = read.no_end;
    told = read.told;
    stand = record {
      before = stand.before ∙ ap (λ ls. first_line ∷ dts_line ∷ ls) read.stand.before;
      ended = stand.ended ∙ read.stand.ended;
    };
    place = omega (arith, read.place, length-append read.lines (end_line ∷ []));
    room = omega (arith, read.room, short);
  }

  pub text_fault : (fault : SessionFault) → IsTextFault rest fault → IsFaultOf bytes fault
  text_fault fault leaves other =
      subst (λ t. LeavesSession (lines_of bytes) t fault.line fault.kind) (sym stand.ended) (subst (λ ls. LeavesSession ls (unended rest) fault.line fault.kind) (sym stand.before) leaves)

-- whether there is a text
demo_told : (board : BoardPart) → is_demo board ≡ is_none (board_text board)
demo_told Demo = refl
demo_told (Text lines) = refl

pub none_lent : (text : Option (Bor (List ℕ))) → is_none text ≡ is_none (option_copied text)
none_lent None = refl
none_lent (Some text) = refl

module _ (bytes : List ℕ) (text : Option (List ℕ)) (rest : List ℕ) (number : ℕ) (read : IsBoardRead bytes text rest number) (demo : Bool) (none : demo ≡ is_none text) where
  stands_behind : IsBehind read.board demo number
  stands_behind = record {
    is_board = read.is_board;
    same = demo_told read.board ∙ ap is_none (sym read.told) ∙ sym none;
    place = read.place;
  }

  -- the frame, or what leaves it, behind the board
  pub frame_read : (progress : Progress) → ((board : BoardPart) → IsBehind board demo number → IsRestRead board rest progress) → IsRead bytes (record { text = text; setup = progress.setup; scripts = progress.scripts })
  frame_read progress rests =
      let here = rests read.board stands_behind in
      record {
        frame = frame_of read.board progress;
        is_frame = record {
          limits = here.frame.limits;
          spelled = read.stand.before ∙ here.frame.spelled;
          ended = read.stand.ended ∙ here.frame.ended;
        };
        text = read.told;
        setup = refl;
        scripts = refl;
        calls = here.calls;
      }

  pub frame_left : (fault : SessionFault) → ((board : BoardPart) → IsBehind board demo number → IsRestFault board rest fault) → IsFaultOf bytes fault
  frame_left fault rests other =
      subst (λ t. LeavesSession (lines_of bytes) t fault.line fault.kind) (sym read.stand.ended) (subst (λ ls. LeavesSession ls (unended rest) fault.line fault.kind) (sym read.stand.before) (rests read.board stands_behind other))
