-- Rows worked out by hand: which fit a board of two rails and one chip, and which don't.
use Rattle.std.proofs.Common.{ℕ, ◌≡◌, [], ◌∷◌, true, false, codes, None, Some, replicate, refl, arith}
use Rattle.std.proofs.lemmas.List.Elements.{All-from_recursion, All-nil}
use Rattle.arrayvec.specs.ArrayString.{ArrayString}
use Rattle.load_modes.specs.declared.mode.Mode.TheVariants.{Idle}
use Rattle.board.specs.declared.event.Event.TheVariants.{PreVoltageChange, VoltageChange, AbortVoltageChange, Enable as EnableEvent, PreDisable, Disable as DisableEvent, AbortDisable}
use Rattle.board.specs.declared.rail_id.RailId.{RailId}
use Rattle.board.specs.declared.state.State.TheVariants.{Mem}
use Rattle.board.specs.declared.write.Write.{Write}
use Rattle.board.proofs.Boards.{coupled_board}
use Rattle.rows.specs.declared.answer.Answer.TheVariants.{Ok, OkTime, OkSet, OkMode, OkUv, OkOn, OkList, OkYes, OkEvents, BadRange, NoValue, Unbalanced, CountFull, StillEnabled, Taken, HandleOpen, HandlesFull, NoHandle, NotAllowed, NoMode, NotListening, Suspended, NotSuspended, Fault}
use Rattle.rows.specs.declared.call.Call.TheVariants.{Open, Close, Enable, Disable, Set, Load, Get, IsOn, ModeOf, ListSel, Supported, Listen, Events, Suspend, Resume, ReleaseBoot}
use Rattle.rows.specs.declared.row.Row.{Row}
use Rattle.rows.specs.Fits.{Fits, FitsAnswer, FitsEvent, FitsNow, FitsTold, FitsWrite, told, trimmed_row, Nothing, Delay, UvAndDelay, AMode, Uv, OnOrOff, UvOrNone, YesOrNo, TheEvents}

abbrev rail : ℕ → RailId
rail n = record { 0 = n }

abbrev cpu : ArrayString
cpu = record { bytes = codes "cpu_0"; spare = 7 ∷ [] }

-- what each call is told
told_open : told (Open cpu (rail 3) true) ≡ Nothing
told_open = refl

told_close : told (Close cpu) ≡ Nothing
told_close = refl

told_enable : told (Enable cpu) ≡ Delay
told_enable = refl

told_disable : told (Disable cpu) ≡ Nothing
told_disable = refl

told_set : told (Set cpu 1 2) ≡ UvAndDelay
told_set = refl

told_load : told (Load cpu 3) ≡ AMode
told_load = refl

told_get : told (Get cpu) ≡ Uv
told_get = refl

told_isOn : told (IsOn cpu) ≡ OnOrOff
told_isOn = refl

told_modeOf : told (ModeOf cpu) ≡ AMode
told_modeOf = refl

told_listSel : told (ListSel cpu 4) ≡ UvOrNone
told_listSel = refl

told_supported : told (Supported cpu 5 6) ≡ YesOrNo
told_supported = refl

told_listen : told (Listen cpu) ≡ Nothing
told_listen = refl

told_events : told (Events cpu) ≡ TheEvents
told_events = refl

told_suspend : told (Suspend Mem) ≡ Nothing
told_suspend = refl

told_resume : told Resume ≡ Nothing
told_resume = refl

told_releaseBoot : told ReleaseBoot ≡ Nothing
told_releaseBoot = refl

-- events
old_value : ¬ FitsEvent (PreVoltageChange 4294967296 0)
old_value fits = absurd (omega (arith, fits.0))

new_value : ¬ FitsEvent (PreVoltageChange 0 4294967296)
new_value fits = absurd (omega (arith, fits.1))

value : ¬ FitsEvent (VoltageChange 4294967296)
value fits = absurd (omega (arith, fits))

kept_value : ¬ FitsEvent (AbortVoltageChange 4294967296)
kept_value fits = absurd (omega (arith, fits))

greatest_values : FitsEvent (PreVoltageChange 4294967295 4294967295)
greatest_values = (omega arith, omega arith)

greatest_value : FitsEvent (VoltageChange 4294967295)
greatest_value = omega arith

greatest_kept : FitsEvent (AbortVoltageChange 4294967295)
greatest_kept = omega arith

switches : FitsEvent EnableEvent × FitsEvent PreDisable × FitsEvent DisableEvent × FitsEvent AbortDisable
switches = (tt, tt, tt, tt)

-- rails with their values
last_rail : FitsNow coupled_board (rail 1, 4294967295)
last_rail = (omega arith, omega arith)

rail_behind : ¬ FitsNow coupled_board (rail 2, 0)
rail_behind fits = absurd (omega (arith, fits.0))

value_behind : ¬ FitsNow coupled_board (rail 0, 4294967296)
value_behind fits = absurd (omega (arith, fits.1))

-- what is told to a call that was done
fits_ok : FitsTold coupled_board Nothing Ok
fits_ok = refl

other_ok : ¬ FitsTold coupled_board Delay Ok
other_ok fits = absurd (let e = fits in cc)

fits_okTime : FitsTold coupled_board Delay (OkTime 18446744073709551615)
fits_okTime = (refl, omega arith)

other_okTime : ¬ FitsTold coupled_board Nothing (OkTime 18446744073709551615)
other_okTime fits = absurd (let e = fits.0 in cc)

fits_okSet : FitsTold coupled_board UvAndDelay (OkSet 4294967295 18446744073709551615)
fits_okSet = (refl, omega arith, omega arith)

other_okSet : ¬ FitsTold coupled_board Nothing (OkSet 4294967295 18446744073709551615)
other_okSet fits = absurd (let e = fits.0 in cc)

fits_okMode : FitsTold coupled_board AMode (OkMode Idle)
fits_okMode = refl

other_okMode : ¬ FitsTold coupled_board Nothing (OkMode Idle)
other_okMode fits = absurd (let e = fits in cc)

fits_okUv : FitsTold coupled_board Uv (OkUv 4294967295)
fits_okUv = (refl, omega arith)

other_okUv : ¬ FitsTold coupled_board Nothing (OkUv 4294967295)
other_okUv fits = absurd (let e = fits.0 in cc)

fits_okOn : FitsTold coupled_board OnOrOff (OkOn true)
fits_okOn = refl

other_okOn : ¬ FitsTold coupled_board Nothing (OkOn true)
other_okOn fits = absurd (let e = fits in cc)

fits_okList : FitsTold coupled_board UvOrNone (OkList (Some 4294967295))
fits_okList = (refl, omega arith)

other_okList : ¬ FitsTold coupled_board Nothing (OkList (Some 4294967295))
other_okList fits = absurd (let e = fits.0 in cc)

fits_okYes : FitsTold coupled_board YesOrNo (OkYes false)
fits_okYes = refl

other_okYes : ¬ FitsTold coupled_board Nothing (OkYes false)
other_okYes fits = absurd (let e = fits in cc)

fits_okEvents : FitsTold coupled_board TheEvents (OkEvents [])
fits_okEvents = (refl, omega arith, All-nil FitsEvent)

other_okEvents : ¬ FitsTold coupled_board Nothing (OkEvents [])
other_okEvents fits = absurd (let e = fits.0 in cc)

fits_none : FitsTold coupled_board UvOrNone (OkList None)
fits_none = (refl, tt)

no_delay : ¬ FitsTold coupled_board Delay (OkTime 18446744073709551616)
no_delay fits = absurd (omega (arith, fits.1))

no_set_value : ¬ FitsTold coupled_board UvAndDelay (OkSet 4294967296 0)
no_set_value fits = absurd (omega (arith, fits.1))

no_set_delay : ¬ FitsTold coupled_board UvAndDelay (OkSet 0 18446744073709551616)
no_set_delay fits = absurd (omega (arith, fits.2))

no_uv : ¬ FitsTold coupled_board Uv (OkUv 4294967296)
no_uv fits = absurd (omega (arith, fits.1))

no_listed : ¬ FitsTold coupled_board UvOrNone (OkList (Some 4294967296))
no_listed fits = absurd (omega (arith, fits.1))

no_low : ¬ FitsTold coupled_board Nothing (BadRange 4294967296 0)
no_low fits = absurd (omega (arith, fits.0))

no_high : ¬ FitsTold coupled_board Nothing (BadRange 0 4294967296)
no_high fits = absurd (omega (arith, fits.1))

no_unbalanced : ¬ FitsTold coupled_board Nothing (Unbalanced 1)
no_unbalanced fits = absurd (omega (arith, fits))

no_count : ¬ FitsTold coupled_board Nothing (CountFull 65534)
no_count fits = absurd (omega (arith, fits))

no_enables : ¬ FitsTold coupled_board Nothing (StillEnabled 4294967296)
no_enables fits = absurd (omega (arith, fits))

no_handles : ¬ FitsTold coupled_board Nothing (Taken 4294967296)
no_handles fits = absurd (omega (arith, fits))

no_full : ¬ FitsTold coupled_board Nothing (HandlesFull 63)
no_full fits = absurd (omega (arith, fits))

no_sum : ¬ FitsTold coupled_board Nothing (NoMode 18446744073709551616)
no_sum fits = absurd (omega (arith, fits))

no_chip : ¬ FitsTold coupled_board Nothing (Fault 256 0 0 [])
no_chip fits = absurd (omega (arith, fits.0))

no_register : ¬ FitsTold coupled_board Nothing (Fault 0 256 0 [])
no_register fits = absurd (omega (arith, fits.1))

no_applied : ¬ FitsTold coupled_board Nothing (Fault 0 0 4294967296 [])
no_applied fits = absurd (omega (arith, fits.2))

no_many : ¬ FitsTold coupled_board TheEvents (OkEvents (replicate 65 EnableEvent))
no_many fits = absurd (omega (arith, fits.1))

no_event : ¬ FitsTold coupled_board TheEvents (OkEvents (VoltageChange 4294967296 ∷ []))
no_event fits = absurd (omega (arith, fits.2 0 EnableEvent (omega arith)))

no_fault_rail : ¬ FitsTold coupled_board Nothing (Fault 0 0 0 ((rail 2, 0) ∷ []))
no_fault_rail fits = absurd (omega (arith, (fits.3 0 (rail 0, 0) (omega arith)).0))

-- refusals of any call
refused_badrange : FitsAnswer coupled_board (Get cpu) (BadRange 4294967295 4294967295)
refused_badrange = (omega arith, omega arith)

refused_novalue : FitsAnswer coupled_board (Get cpu) NoValue
refused_novalue = tt

refused_unbalanced : FitsAnswer coupled_board (Get cpu) (Unbalanced 0)
refused_unbalanced = refl

refused_countfull : FitsAnswer coupled_board (Get cpu) (CountFull 65535)
refused_countfull = refl

refused_stillenabled : FitsAnswer coupled_board (Get cpu) (StillEnabled 4294967295)
refused_stillenabled = omega arith

refused_taken : FitsAnswer coupled_board (Get cpu) (Taken 4294967295)
refused_taken = omega arith

refused_handleopen : FitsAnswer coupled_board (Get cpu) HandleOpen
refused_handleopen = tt

refused_handlesfull : FitsAnswer coupled_board (Get cpu) (HandlesFull 64)
refused_handlesfull = refl

refused_nohandle : FitsAnswer coupled_board (Get cpu) NoHandle
refused_nohandle = tt

refused_notallowed : FitsAnswer coupled_board (Get cpu) NotAllowed
refused_notallowed = tt

refused_nomode : FitsAnswer coupled_board (Get cpu) (NoMode 18446744073709551615)
refused_nomode = omega arith

refused_notlistening : FitsAnswer coupled_board (Get cpu) NotListening
refused_notlistening = tt

refused_suspended : FitsAnswer coupled_board (Get cpu) Suspended
refused_suspended = tt

refused_notsuspended : FitsAnswer coupled_board (Get cpu) NotSuspended
refused_notsuspended = tt

refused_fault : FitsAnswer coupled_board (Get cpu) (Fault 255 255 4294967295 [])
refused_fault = (omega arith, omega arith, omega arith, All-nil (FitsNow coupled_board))

-- writes
abbrev write : ℕ → ℕ → ℕ → ℕ → Write
write chip reg mask bits = record { chip = chip; reg = reg; mask = mask; bits = bits }

last_write : FitsWrite coupled_board (write 0 255 255 255)
last_write = (omega arith, omega arith, omega arith, omega arith, omega arith)

chip_behind : ¬ FitsWrite coupled_board (write 1 0 0 0)
chip_behind fits = absurd (omega (arith, fits.0))

reg_behind : ¬ FitsWrite coupled_board (write 0 256 0 0)
reg_behind fits = absurd (omega (arith, fits.2))

mask_behind : ¬ FitsWrite coupled_board (write 0 0 256 0)
mask_behind fits = absurd (omega (arith, fits.3))

bits_behind : ¬ FitsWrite coupled_board (write 0 0 0 256)
bits_behind fits = absurd (omega (arith, fits.4))

-- a row of the second worker, and rows in which one clause is broken
abbrev row : Row
row = record { worker = 2; line = 7; call = Get cpu; answer = OkUv 812500; writes = write 0 16 127 33 ∷ [] }

row_fits : Fits coupled_board row
row_fits = record {
  worker = omega arith;
  line = omega arith;
  call = (refl, refl, omega arith);
  rail = tt;
  answer = (refl, omega arith);
  writes = All-from_recursion (FitsWrite coupled_board) (write 0 16 127 33 ∷ []) ((omega arith, omega arith, omega arith, omega arith, omega arith), tt);
}

worker_behind : ¬ Fits coupled_board (record row { worker = 65536 })
worker_behind fits = absurd (omega (arith, fits.worker))

line_behind : ¬ Fits coupled_board (record row { line = 4294967296 })
line_behind fits = absurd (omega (arith, fits.line))

call_of_no_name : ¬ Fits coupled_board (record row { call = Get (record { bytes = []; spare = [] }) })
call_of_no_name fits = fits.call

no_rail : ¬ Fits coupled_board (record row { call = Open cpu (rail 2) false; answer = Ok })
no_rail fits = absurd (omega (arith, fits.rail))

other_answer : ¬ Fits coupled_board (record row { answer = Ok })
other_answer fits = absurd (let e = fits.answer in cc)

other_chip : ¬ Fits coupled_board (record row { writes = write 1 16 127 33 ∷ [] })
other_chip fits = absurd (omega (arith, (fits.writes 0 (write 0 0 0 0) (omega arith)).0))

row_trimmed : trimmed_row row ≡ record row { call = Get (record { bytes = codes "cpu_0"; spare = [] }) }
row_trimmed = refl
