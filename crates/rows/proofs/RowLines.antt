-- The first line of a row, told in one way from the lines of the row.
use Rattle.std.proofs.Common.{ℕ, ◌≡◌, ◌≢◌, ◌^◌, ◌<◌, List, [], ◌∷◌, ◌++◌, codes, decimal, length, nat_lt, true, false, All, flat_map, Bool, Option, None, Some, refl, sym, ap, ◌∙◌, arith, append_assoc}
use Rattle.std.specs.List.{list_all}
use Rattle.std.specs.Prelude.{IfSome}
use Rattle.std.proofs.lemmas.List.Elements.{All-nil, All-append, All-cons, All-head, All-tail}
use Rattle.load_modes.specs.declared.mode.Mode.{Mode}
use Rattle.load_modes.specs.declared.mode.Mode.TheVariants.{Fast, Normal, Idle, Standby}
use Rattle.board.specs.declared.board.Board.{Board}
use Rattle.board.specs.declared.rail_id.RailId.{RailId}
use Rattle.board.specs.declared.event.Event.{Event}
use Rattle.board.specs.declared.event.Event.TheVariants.{PreVoltageChange, VoltageChange, AbortVoltageChange, Enable as EnableEvent, PreDisable, Disable as DisableEvent, AbortDisable}
use Rattle.board.specs.Valid.{HasNames}
use Rattle.rows.specs.declared.answer.Answer.{Answer}
use Rattle.rows.specs.declared.answer.Answer.TheVariants.{Ok, OkTime, OkSet, OkMode, OkUv, OkOn, OkList, OkYes, OkEvents, BadRange, NoValue, Unbalanced, CountFull, StillEnabled, Taken, HandleOpen, HandlesFull, NoHandle, NotAllowed, NoMode, NotListening, Suspended, NotSuspended, Fault}
use Rattle.rows.specs.declared.call.Call.{Call}
use Rattle.rows.specs.declared.call.Call.TheVariants.{Open, Close, Enable, Disable, Set, Load, Get, IsOn, ModeOf, ListSel, Supported, Listen, Events, Suspend, Resume, ReleaseBoot}
use Rattle.rows.specs.declared.row.Row.{Row}
use Rattle.rows.specs.AnswerText.{answer_text, event_text, next_event_text, listed_text, now_text}
use Rattle.rows.specs.CallText.{call_text, call_words}
use Rattle.rows.specs.Fits.{Fits, FitsEvent, FitsNow, FitsTold, Told, told}
use Rattle.rows.specs.Reading.{without_rail}
use Rattle.rows.specs.Row.{rail_name, row_text, write_text}
use Rattle.rows.specs.RowLine.{IsHead}
use Rattle.rows.specs.Words.{spaced, hex_text, mode_text, on_text, yes_text}
use Rattle.rows.proofs.BoardCalls.{call_name_lacks, rail_lacks, spells_on, word_of}
use Rattle.rows.proofs.CallFronts.{call_front}
use Rattle.rows.proofs.CallWords.{call_words_lack}
use Rattle.rows.proofs.Cuts.{AllLack, Dense-decimal, Dense-hex_text, Lacks-dense, Lacks-spaced, dense_by_test}
use Rattle.rows.proofs.OneSpelling.{one_line}
use Rattle.rows.proofs.RowHeads.{call_behind}
use Rattle.rows.proofs.Separators.{Lacks, split_once}

-- words without a newline
text : (w : List ℕ) → list_all (nat_lt 32) w ≡ true → Lacks 10 w
text w test = Lacks-dense 10 w (omega arith) (dense_by_test w test)

number : (n : ℕ) → n < 2 ^ 64 → Lacks 10 (decimal n)
number n small = Lacks-dense 10 (decimal n) (omega arith) (Dense-decimal n small)

byte : (n : ℕ) → Lacks 10 (hex_text n)
byte n = Lacks-dense 10 (hex_text n) (omega arith) (Dense-hex_text n)

different : let newline : ℕ = 10 in newline ≢ 32
different same = absurd (omega (arith, same))

joined : (words : List (List ℕ)) → AllLack 10 words → Lacks 10 (spaced words)
joined words lack = Lacks-spaced 10 different words lack

mode_lacks : (mode : Mode) → Lacks 10 (mode_text mode)
mode_lacks Fast = text (codes "fast") refl
mode_lacks Normal = text (codes "normal") refl
mode_lacks Idle = text (codes "idle") refl
mode_lacks Standby = text (codes "standby") refl

on_lacks : (on : Bool) → Lacks 10 (on_text on)
on_lacks true = text (codes "on") refl
on_lacks false = text (codes "off") refl

yes_lacks : (is : Bool) → Lacks 10 (yes_text is)
yes_lacks true = text (codes "yes") refl
yes_lacks false = text (codes "no") refl

listed_lacks : (uv : Option ℕ) → IfSome uv (λ n. n < 2 ^ 32) → Lacks 10 (listed_text uv)
listed_lacks None fits = text (codes "none") refl
listed_lacks (Some uv) fits = number uv (omega (arith, fits))

event_lacks : (event : Event) → FitsEvent event → Lacks 10 (event_text event)
event_lacks (PreVoltageChange old new) fits = joined (codes "pre-voltage-change" ∷ decimal old ∷ decimal new ∷ []) (text (codes "pre-voltage-change") refl, (number old (omega (arith, fits.0)), (number new (omega (arith, fits.1)), tt)))
event_lacks (VoltageChange uv) fits = joined (codes "voltage-change" ∷ decimal uv ∷ []) (text (codes "voltage-change") refl, (number uv (omega (arith, fits)), tt))
event_lacks (AbortVoltageChange uv) fits = joined (codes "abort-voltage-change" ∷ decimal uv ∷ []) (text (codes "abort-voltage-change") refl, (number uv (omega (arith, fits)), tt))
event_lacks EnableEvent fits = text (codes "enable") refl
event_lacks PreDisable fits = text (codes "pre-disable") refl
event_lacks DisableEvent fits = text (codes "disable") refl
event_lacks AbortDisable fits = text (codes "abort-disable") refl

space_lacks : (words : List ℕ) → Lacks 10 words → Lacks 10 (32 ∷ words)
space_lacks words lacks = All-cons (λ b. b ≢ 10) 32 words (λ same. different (sym same)) lacks

events_lack : (list : List Event) → All FitsEvent list → Lacks 10 (flat_map next_event_text list)
events_lack [] fits = All-nil (λ b. b ≢ 10)
events_lack (event ∷ list) fits =
    let one = event_lacks event (All-head FitsEvent event list fits) in
    All-append (λ b. b ≢ 10) (next_event_text event) (flat_map next_event_text list) (All-cons (λ b. b ≢ 10) 59 (32 ∷ event_text event) (λ same. absurd (omega (arith, same))) (space_lacks (event_text event) one)) (events_lack list (All-tail FitsEvent event list fits))

module _ (board : Board) (names : HasNames board) where
  nows_lack : (now : List (RailId × ℕ)) → All (FitsNow board) now → Lacks 10 (flat_map (now_text (rail_name board)) now)
  nows_lack [] fits = All-nil (λ b. b ≢ 10)
  nows_lack (rail ∷ now) fits =
      let one = joined (rail_name board rail.0 ∷ decimal rail.1 ∷ []) (rail_lacks 10 (omega arith) board names rail.0, (number rail.1 (omega (arith, (All-head (FitsNow board) rail now fits).1)), tt)) in
      All-append (λ b. b ≢ 10) (now_text (rail_name board) rail) (flat_map (now_text (rail_name board)) now) (space_lacks _ one) (nows_lack now (All-tail (FitsNow board) rail now fits))

  answer_lacks : (kind : Told) (answer : Answer) → FitsTold board kind answer → Lacks 10 (answer_text (rail_name board) answer)
  answer_lacks kind Ok fits = text (codes "ok") refl
  answer_lacks kind (OkTime delay) fits = joined (codes "ok" ∷ decimal delay ∷ []) (text (codes "ok") refl, (number delay fits.1, tt))
  answer_lacks kind (OkSet uv delay) fits = joined (codes "ok" ∷ decimal uv ∷ decimal delay ∷ []) (text (codes "ok") refl, (number uv (omega (arith, fits.1)), (number delay fits.2, tt)))
  answer_lacks kind (OkMode mode) fits = joined (codes "ok" ∷ mode_text mode ∷ []) (text (codes "ok") refl, (mode_lacks mode, tt))
  answer_lacks kind (OkUv uv) fits = joined (codes "ok" ∷ decimal uv ∷ []) (text (codes "ok") refl, (number uv (omega (arith, fits.1)), tt))
  answer_lacks kind (OkOn on) fits = joined (codes "ok" ∷ on_text on ∷ []) (text (codes "ok") refl, (on_lacks on, tt))
  answer_lacks kind (OkList uv) fits = joined (codes "ok" ∷ listed_text uv ∷ []) (text (codes "ok") refl, (listed_lacks uv fits.1, tt))
  answer_lacks kind (OkYes is) fits = joined (codes "ok" ∷ yes_text is ∷ []) (text (codes "ok") refl, (yes_lacks is, tt))
  answer_lacks kind (OkEvents list) fits =
      All-append (λ b. b ≢ 10) (spaced (codes "ok" ∷ decimal (length list) ∷ [])) (flat_map next_event_text list) (joined (codes "ok" ∷ decimal (length list) ∷ []) (text (codes "ok") refl, (number (length list) (omega (arith, fits.1)), tt))) (events_lack list fits.2)
  answer_lacks kind (BadRange lo hi) fits = joined (codes "badrange" ∷ decimal lo ∷ decimal hi ∷ []) (text (codes "badrange") refl, (number lo (omega (arith, fits.0)), (number hi (omega (arith, fits.1)), tt)))
  answer_lacks kind NoValue fits = text (codes "novalue") refl
  answer_lacks kind (Unbalanced enables) fits = joined (codes "unbalanced" ∷ decimal enables ∷ []) (text (codes "unbalanced") refl, (number enables (omega (arith, fits)), tt))
  answer_lacks kind (CountFull enables) fits = joined (codes "countfull" ∷ decimal enables ∷ []) (text (codes "countfull") refl, (number enables (omega (arith, fits)), tt))
  answer_lacks kind (StillEnabled enables) fits = joined (codes "stillenabled" ∷ decimal enables ∷ []) (text (codes "stillenabled") refl, (number enables (omega (arith, fits)), tt))
  answer_lacks kind (Taken handles) fits = joined (codes "taken" ∷ decimal handles ∷ []) (text (codes "taken") refl, (number handles (omega (arith, fits)), tt))
  answer_lacks kind HandleOpen fits = text (codes "handleopen") refl
  answer_lacks kind (HandlesFull handles) fits = joined (codes "handlesfull" ∷ decimal handles ∷ []) (text (codes "handlesfull") refl, (number handles (omega (arith, fits)), tt))
  answer_lacks kind NoHandle fits = text (codes "nohandle") refl
  answer_lacks kind NotAllowed fits = text (codes "notallowed") refl
  answer_lacks kind (NoMode sum) fits = joined (codes "nomode" ∷ decimal sum ∷ []) (text (codes "nomode") refl, (number sum fits, tt))
  answer_lacks kind NotListening fits = text (codes "notlistening") refl
  answer_lacks kind Suspended fits = text (codes "suspended") refl
  answer_lacks kind NotSuspended fits = text (codes "notsuspended") refl
  answer_lacks kind (Fault chip reg applied now) fits =
      All-append (λ b. b ≢ 10) (spaced (codes "fault" ∷ decimal chip ∷ hex_text reg ∷ decimal applied ∷ [])) (flat_map (now_text (rail_name board)) now) (joined (codes "fault" ∷ decimal chip ∷ hex_text reg ∷ decimal applied ∷ []) (text (codes "fault") refl, (number chip (omega (arith, fits.0)), (byte reg, (number applied (omega (arith, fits.2)), tt))))) (nows_lack now fits.3)

  -- the first line of a row, without its newline
  abbrev pub head_of : Row → List ℕ
  head_of row = spaced (decimal row.worker ∷ decimal row.line ∷ call_text (rail_name board) row.call ∷ codes "->" ∷ answer_text (rail_name board) row.answer ∷ [])

  head_lacks : (row : Row) → Fits board row → Lacks 10 (head_of row)
  head_lacks row fits =
      let call = joined (call_words (rail_name board) row.call) (call_words_lack 10 (omega arith) (rail_name board) row.call fits.call (call_name_lacks 10 (omega arith) board names row.call)) in
      joined (decimal row.worker ∷ decimal row.line ∷ call_text (rail_name board) row.call ∷ codes "->" ∷ answer_text (rail_name board) row.answer ∷ [])
      (number row.worker (omega (arith, fits.worker)), (number row.line (omega (arith, fits.line)), (call, (text (codes "->") refl, (answer_lacks (told row.call) row.answer fits.answer, tt)))))

  -- the lines of a row are cut at the first newline
  pub row_cut : (line kept : List ℕ) → Lacks 10 line → (row : Row) → Fits board row → row_text board row ≡ line ++ 10 ∷ kept → (line ≡ head_of row) × (kept ≡ flat_map write_text row.writes)
  row_cut line kept lacks row fits same =
      split_once 10 line kept (head_of row) (flat_map write_text row.writes) lacks (head_lacks row fits) (sym same ∙ append_assoc (head_of row) (10 ∷ []) (flat_map write_text row.writes))

  pub row_is_head : (line : List ℕ) (row : Row) → Fits board row → line ≡ head_of row → IsHead board line row.worker row.line row.call (answer_text (rail_name board) row.answer)
  row_is_head line row fits same = record { is = fits.call; rail = fits.rail; small_worker = fits.worker; small_number = fits.line; spelled = same }

  pub row_is_cut : (row : Row) → row_text board row ≡ head_of row ++ 10 ∷ flat_map write_text row.writes
  row_is_cut row = append_assoc (head_of row) (10 ∷ []) (flat_map write_text row.writes)

told_still : (call : Call) → told (without_rail call) ≡ told call
told_still (Open handle rail exclusive) = refl
told_still (Close handle) = refl
told_still (Enable handle) = refl
told_still (Disable handle) = refl
told_still (Set handle lo hi) = refl
told_still (Load handle ua) = refl
told_still (Get handle) = refl
told_still (IsOn handle) = refl
told_still (ModeOf handle) = refl
told_still (ListSel handle sel) = refl
told_still (Supported handle lo hi) = refl
told_still (Listen handle) = refl
told_still (Events handle) = refl
told_still (Suspend state) = refl
told_still Resume = refl
told_still ReleaseBoot = refl

-- two readings of one line have one kind of call and one answer
module _ (board : Board) (names : HasNames board) (line : List ℕ) (w n : ℕ) (c : Call) (a : List ℕ) (first : IsHead board line w n c a) (w' n' : ℕ) (d : Call) (b : List ℕ) (second : IsHead board line w' n' d b) where
  parts : (call_text (rail_name board) c ≡ call_text (rail_name board) d) × (a ≡ b)
  parts =
      let rest = spaced (call_text (rail_name board) c ∷ codes "->" ∷ a ∷ []) in
      let count = call_front (rail_name board) c (codes "->" ++ 32 ∷ a) rest first.is (call_name_lacks 32 (omega arith) board names c) refl in
      call_behind board names line w n rest first.small_worker first.small_number first.spelled (call_text (rail_name board) c) a refl count w' n' d b second

  pub kind_same : told c ≡ told d
  kind_same =
      let calls = one_line (call_text (rail_name board) c) (word_of board c) (word_of board d) c d (spells_on board names c _ (record { is = first.is; rail = first.rail; spelled = refl })) (spells_on board names d _ (record { is = second.is; rail = second.rail; spelled = parts.0 })) in
      sym (told_still c) ∙ ap told calls.1 ∙ told_still d

  pub answer_same : a ≡ b
  answer_same = parts.1
