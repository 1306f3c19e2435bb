-- What the calls of a worker are answered on a board of one rail.
use Rattle.std.proofs.Common.{◌≡◌, ℕ, Bool, true, false, not, ◌&&◌, ◌||◌, cond, leb, ltb, eqb, List, [], ◌∷◌, ◌++◌, Option, Some, None, refl, ap, ◌∙◌, map, filter, length}
use Rattle.std.specs.Prelude.{option_map, filter_map}
use Rattle.std.specs.List.{list_all, list_any, cons_option}
use Rattle.std.proofs.lemmas.List.{length-map}
use Rattle.arrayvec.specs.ArrayString.{ArrayString}
use Rattle.board.specs.declared.rail.Rail.{Rail}
use Rattle.board.specs.Rail.{uv, allowed, least}
use Rattle.rows.specs.declared.answer.Answer.TheVariants.{Ok, OkUv, BadRange, NoHandle, NoValue, Suspended, HandleOpen, HandlesFull, Taken}
use Rattle.rows.specs.declared.call.Call.{Call}
use Rattle.rows.specs.declared.call.Call.TheVariants.{Open, Set, Get}
use Rattle.use_counts.specs.declared.handle_row.HandleRow.{HandleRow}
use Rattle.plain_board.specs.declared.plain.Plain.{Plain}
use Rattle.plain_board.specs.Handles.{Entry, is_own, open_of, count_own, rows_on, with_open, without_open}
use Rattle.plain_board.specs.Requests.{meets, requests_on, asked, with_moved, goal_of}
use Rattle.plain_board.specs.Refusals.{refusal, most_handles}
use Rattle.plain_board.specs.Plan.{moves_of_call}
use Rattle.plain_board.specs.Answer.{answer, new_row}
use Rattle.regulator_main.specs.Inside.Asked.{asks}
use Rattle.regulator_main.specs.Inside.Way.{moves_to}
use Rattle.regulator_main.proofs.LoneBoard.{lone_board, first, alone, lone-path, lone-least}
use Rattle.regulator_main.proofs.Ordered.{has}

abbrev request_of : HandleRow → Option (ℕ × ℕ)
request_of row = row.request

abbrev on : ℕ → Entry → Bool
on i entry = eqb entry.0.0 i

abbrev requests_in : List Entry → List (ℕ × ℕ)
requests_in entries = filter_map request_of (map (λ (e : Entry). e.1) entries)

by_tests : (i : ℕ) (entry : Entry) (fs : List Entry) (rs : List (ℕ × ℕ)) (t u : Bool) → on i entry ≡ u → requests_in (filter (on i) fs) ≡ rs
    → requests_in (filter (on i) (cond (not t) (entry ∷ fs) fs)) ≡ cons_option (cond (u && not t) entry.1.request None) rs
by_tests i entry fs rs true true here rest = rest
by_tests i entry fs rs true false here rest = rest
by_tests i entry fs rs false true here rest = rw here (ap (cons_option entry.1.request) rest)
by_tests i entry fs rs false false here rest = rw here rest

-- the requests on a rail but the worker's own, handle by handle
pub requests-by_handle : (worker : ℕ) (name : List ℕ) (i : ℕ) (handles : List Entry)
    → requests_on (without_open handles worker name) i ≡ filter_map (asks worker name i) handles
requests-by_handle worker name i [] = refl
requests-by_handle worker name i (entry ∷ rest) =
    by_tests i entry (without_open rest worker name) (filter_map (asks worker name i) rest) (is_own worker name entry) (on i entry) refl (requests-by_handle worker name i rest)

module _ (rail : Rail) (chips : ℕ) (plain : Plain) (worker : ℕ) (handle : ArrayString) where
  -- the least value of the rail that meets a request and all standing ones of other handles
  abbrev pub target : ℕ × ℕ → Option ℕ
  target request = least (filter (λ v. list_all (meets v) (request ∷ filter_map (asks worker handle.bytes 0) plain.handles)) (allowed rail))

  moved-alone : (now : List ℕ) (o : Option ℕ) → option_map (with_moved (lone_board rail chips) now 0) (option_map alone o) ≡ option_map alone o
  moved-alone now None = refl
  moved-alone now (Some v) = refl

  -- it is where a set brings the board
  goal-lone : (request : ℕ × ℕ) → goal_of (lone_board rail chips) plain worker handle.bytes 0 request ≡ option_map alone (target request)
  goal-lone request =
      ap (option_map (with_moved (lone_board rail chips) (uv rail plain.regs ∷ []) 0))
      (lone-least rail chips (uv rail plain.regs ∷ []) (λ i v. list_all (meets v) (asked plain.handles worker handle.bytes 0 request i)))
      ∙ moved-alone (uv rail plain.regs ∷ []) (least (filter (λ v. list_all (meets v) (asked plain.handles worker handle.bytes 0 request 0)) (allowed rail)))
      ∙ ap (λ others. option_map alone (least (filter (λ v. list_all (meets v) (request ∷ others)) (allowed rail)))) (requests-by_handle worker handle.bytes 0 plain.handles)

  abbrev set : ℕ → ℕ → Call
  set lo hi = Set handle lo hi

  -- a call of a handle that isn't open
  pub set-missing : (lo hi : ℕ) → open_of plain.handles worker handle.bytes ≡ None → refusal (lone_board rail chips) plain worker (set lo hi) ≡ Some NoHandle
  set-missing lo hi none = rw none refl

  pub get-missing : open_of plain.handles worker handle.bytes ≡ None → answer (lone_board rail chips) plain worker (Get handle) None ≡ (NoHandle, plain)
  get-missing none = rw none refl

  module _ (row : HandleRow) (is : open_of plain.handles worker handle.bytes ≡ Some (first, row)) where
    pub get-answer : answer (lone_board rail chips) plain worker (Get handle) None ≡ (OkUv (uv rail plain.regs), plain)
    get-answer = rw is (rw is refl)

    pub set-suspended : (lo hi : ℕ) → plain.suspended ≡ true → refusal (lone_board rail chips) plain worker (set lo hi) ≡ Some Suspended
    set-suspended lo hi suspended = rw (is, suspended) refl

    pub set-turned : (lo hi : ℕ) → plain.suspended ≡ false → ltb hi lo ≡ true → refusal (lone_board rail chips) plain worker (set lo hi) ≡ Some (BadRange lo hi)
    set-turned lo hi awake turned = rw (is, awake, turned) refl

    pub set-none : (lo hi : ℕ) → plain.suspended ≡ false → ltb hi lo ≡ false → target (lo, hi) ≡ None → refusal (lone_board rail chips) plain worker (set lo hi) ≡ Some NoValue
    set-none lo hi awake straight none = rw (is, awake, straight, goal-lone (lo, hi), none) refl

    pub set-moves : (lo hi v : ℕ) → plain.suspended ≡ false → ltb hi lo ≡ false → target (lo, hi) ≡ Some v → has v (allowed rail) ≡ true
        → (refusal (lone_board rail chips) plain worker (set lo hi) ≡ None)
        × (moves_of_call (lone_board rail chips) plain worker (set lo hi) ≡ moves_to first rail (uv rail plain.regs) v)
    set-moves lo hi v awake straight some there = (
      rw (is, awake, straight, goal-lone (lo, hi), some) refl,
      rw (is, goal-lone (lo, hi), some) (lone-path rail chips (uv rail plain.regs) v there),
    )

  module _ (exclusive : Bool) where
    abbrev opening : Call
    opening = Open handle first exclusive

    -- a handle of this name is open
    pub open-taken : (entry : Entry) → open_of plain.handles worker handle.bytes ≡ Some entry → answer (lone_board rail chips) plain worker opening None ≡ (HandleOpen, plain)
    open-taken entry is = rw is refl

    pub open-full : open_of plain.handles worker handle.bytes ≡ None → leb most_handles (count_own plain.handles worker) ≡ true → answer (lone_board rail chips) plain worker opening None ≡ (HandlesFull most_handles, plain)
    open-full none full = rw (none, full) refl

    -- the rail's handles are all that there are
    module _ (rows_are : rows_on plain.handles 0 ≡ map (λ (e : Entry). e.1) plain.handles) where
      abbrev excluded : Bool
      excluded = list_any (λ (e : Entry). e.1.exclusive) plain.handles || exclusive && ltb 0 (length plain.handles)

      any_row : (entries : List Entry) → list_any (λ (row : HandleRow). row.exclusive) (map (λ (e : Entry). e.1) entries) ≡ list_any (λ (e : Entry). e.1.exclusive) entries
      any_row [] = refl
      any_row (entry ∷ rest) = ap (λ b. entry.1.exclusive || b) (any_row rest)

      excluded_is : (list_any (λ (row : HandleRow). row.exclusive) (rows_on plain.handles 0) || exclusive && ltb 0 (length (rows_on plain.handles 0))) ≡ excluded
      excluded_is =
          ap (λ (rows : List HandleRow). list_any (λ (row : HandleRow). row.exclusive) rows || exclusive && ltb 0 (length rows)) rows_are
          ∙ ap (λ b. b || exclusive && ltb 0 (length (map (λ (e : Entry). e.1) plain.handles))) (any_row plain.handles)
          ∙ ap (λ (n : ℕ). list_any (λ (e : Entry). e.1.exclusive) plain.handles || exclusive && ltb 0 n) (length-map plain.handles (λ (e : Entry). e.1))

      pub open-excluded : open_of plain.handles worker handle.bytes ≡ None → leb most_handles (count_own plain.handles worker) ≡ false → excluded ≡ true
          → answer (lone_board rail chips) plain worker opening None ≡ (Taken (length plain.handles), plain)
      open-excluded none room is =
          rw (none, room, excluded_is, is) (ap (λ (n : ℕ). (Taken n, plain)) (ap length rows_are ∙ length-map plain.handles (λ (e : Entry). e.1)))

      pub open-done : open_of plain.handles worker handle.bytes ≡ None → leb most_handles (count_own plain.handles worker) ≡ false → excluded ≡ false
          → with_open plain.handles (first, new_row worker handle exclusive) ≡ plain.handles ++ (first, new_row worker handle exclusive) ∷ []
          → answer (lone_board rail chips) plain worker opening None ≡ (Ok, record plain { handles = plain.handles ++ (first, new_row worker handle exclusive) ∷ [] })
      open-done none room is last = rw (none, room, excluded_is, is) (ap (λ hs. (Ok, record plain { handles = hs })) last)
