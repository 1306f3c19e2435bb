-- How a text is read and written, what is seen of wires, and exit statuses: what meets each clause at its edges, and what breaks it alone.
use Rattle.std.specs.Prelude.{◌≡◌, ◌==◌, ℕ, false, List, [], ◌∷◌, length, take, Option, Some, None, if◌then◌else◌}
use Rattle.std.proofs.Common.{refl, sym, ap, ◌∙◌, subst, arith, eqb, append-nil}
use Rattle.std.proofs.lemmas.Bool.{ne_eqb}
use Rattle.reg_outside.specs.Told.{with_before, with_more}
use Rattle.session.specs.declared.fault.SessionFault.{SessionFault}
use Rattle.regulator_main.specs.declared.status.Status.{Status}
use Rattle.regulator_main.specs.declared.status.Status.TheVariants.{Done, Memory, Words, ReadFault, WriteFault, SessionRefused, LoadFault}
use Rattle.regulator_main.specs.Input.{TookAtMost}
use Rattle.regulator_main.specs.Outside.{Input, Output, outside, Reads, WritesWhole, IsCut}
use Rattle.regulator_main.specs.Status.{code_of}
use Rattle.regulator_main.specs.Wires.{Wires, wires_of, OthersStay}

-- a source with these bytes left, which failed once
abbrev source : List ℕ → Input
source left = record { left = Some left; faults = 1 }

abbrev failed_source : List ℕ → Input
failed_source left = record { left = Some left; faults = 2 }

-- a sink that took these bytes, and failed once
abbrev sink : List ℕ → Output
sink written = record { written = Some written; faults = 1 }

abbrev failed_sink : List ℕ → Output
failed_sink written = record { written = Some written; faults = 2 }

read_whole : Reads (7 ∷ 8 ∷ []) (source (7 ∷ 8 ∷ [])) (source [])
read_whole = record { taken = refl; end = λ _. refl; few = omega arith; calm = refl }

others_taken : ¬ Reads [] (source (8 ∷ [])) (source [])
others_taken reads = let taken : Some (8 ∷ []) ≡ Some [] = reads.taken in cc

not_to_the_end : ¬ Reads (7 ∷ []) (source (7 ∷ 8 ∷ [])) (source (8 ∷ []))
not_to_the_end reads = omega (arith, ap length (reads.end (omega arith)))

source_failed : ¬ Reads [] (source []) (failed_source [])
source_failed reads = omega (arith, reads.calm)

-- of a source with one byte more: at the limit it is read too, one above the limit it isn't any more, and two above are never read
module _ (bytes : List ℕ) where
  abbrev one_more : Input
  one_more = record { left = with_before bytes (Some (8 ∷ [])); faults = 1 }

  at_limit : length bytes ≡ 4194304 → ¬ Reads bytes one_more (source (8 ∷ []))
  at_limit count reads = omega (arith, ap length (reads.end (omega (arith, count))))

  one_above : length bytes ≡ 4194305 → Reads bytes one_more (source (8 ∷ []))
  one_above count = record { taken = refl; end = λ within. absurd (omega (arith, count, within)); few = omega (arith, count); calm = refl }

  two_above : (before after : Input) → length bytes ≡ 4194306 → ¬ Reads bytes before after
  two_above before after count reads = omega (arith, count, reads.few)

took_two : TookAtMost 2 (Some (7 ∷ 8 ∷ 9 ∷ [])) (Some (9 ∷ []))
took_two = (7 ∷ 8 ∷ [], omega arith, refl)

took_three : ¬ TookAtMost 2 (Some (7 ∷ 8 ∷ 9 ∷ [])) (Some [])
took_three (taken, few, same) = let all : 7 ∷ 8 ∷ 9 ∷ [] ≡ taken = cc (same ∙ ap Some (append-nil taken)) in omega (arith, few, ap length all)

-- a text is written behind what stands there
written_whole : WritesWhole (7 ∷ 8 ∷ []) Words (sink (6 ∷ [])) (sink (6 ∷ 7 ∷ 8 ∷ [])) Words
written_whole = record { wrote = refl; calm = refl; ends = refl }

nothing_written : ¬ WritesWhole (7 ∷ []) Done (sink []) (sink []) Done
nothing_written whole = let wrote : Some [] ≡ Some (7 ∷ []) = whole.wrote in cc

sink_failed : ¬ WritesWhole [] Done (sink []) (failed_sink []) Done
sink_failed whole = omega (arith, whole.calm)

other_end : ¬ WritesWhole [] Done (sink []) (sink []) Memory
other_end whole = let same : Memory ≡ Done = whole.ends in cc

-- one byte of two went out
cut_after_one : IsCut (7 ∷ 8 ∷ []) (sink (6 ∷ [])) (failed_sink (6 ∷ 7 ∷ [])) (WriteFault 1)
cut_after_one = record { kept = 1; within = omega arith; wrote = refl; rose = omega arith; ends = refl }

-- how many a status says were kept
abbrev kept_of : Status → ℕ
kept_of (WriteFault kept) = kept
kept_of _ = 0

not_cut_at_the_end : ¬ IsCut (7 ∷ []) (sink []) (failed_sink (7 ∷ [])) (WriteFault 1)
not_cut_at_the_end cut = omega (arith, ap kept_of cut.ends, cut.within)

other_part : ¬ IsCut (7 ∷ 8 ∷ []) (sink []) (failed_sink []) (WriteFault 1)
other_part cut =
    let kept : cut.kept ≡ 1 = sym (ap kept_of cut.ends) in
    let wrote : Some [] ≡ Some (7 ∷ []) = subst (λ n. Some [] ≡ with_more (Some []) (take n (7 ∷ 8 ∷ []))) kept cut.wrote in
    cc

not_cut_without_fault : ¬ IsCut (7 ∷ []) (sink []) (sink []) (WriteFault 0)
not_cut_without_fault cut = omega (arith, cut.rose)

cut_tells_it : ¬ IsCut (7 ∷ []) (sink []) (failed_sink []) Done
cut_tells_it cut = let same : Done ≡ WriteFault cut.kept = cut.ends in cc

-- each part stands in its place
parts : (left written : Option (List ℕ)) (counts : ℕ → ℕ) → ((outside left 2 written 3 counts (λ n. None)).input.faults ≡ 2) × ((outside left 2 written 3 counts (λ n. None)).output.faults ≡ 3) × ((outside left 2 written 3 counts (λ n. None)).wires.counts ≡ counts)
parts left written counts = (refl, refl, refl)

-- wires 1 and 2, of which the second has one fault more, or a list
abbrev still : Wires
still = wires_of (λ n. 3) (λ n. None)

abbrev with_fault : Wires
with_fault = wires_of (λ n. if n == 2 then 4 else 3) (λ n. None)

abbrev with_list : Wires
with_list = wires_of (λ n. 3) (λ n. if n == 2 then Some [] else None)

other_count : ¬ OthersStay 1 still with_fault
other_count stay = let same : 4 ≡ 3 = stay.counts 2 (λ same. omega (arith, same)) in omega (arith, same)

other_list : ¬ OthersStay 1 still with_list
other_list stay = let same : Some [] ≡ None = stay.lists 2 (λ same. omega (arith, same)) in cc

own_count : OthersStay 2 still with_fault
own_count = record { counts = λ n apart. let test : eqb n 2 ≡ false = ne_eqb n 2 apart in rw test refl; lists = λ n apart. refl }

own_list : OthersStay 2 still with_list
own_list = record { counts = λ n apart. refl; lists = λ n apart. let test : eqb n 2 ≡ false = ne_eqb n 2 apart in rw test refl }

codes_of : (fault : SessionFault) → (code_of Done ≡ 0) × (code_of Memory ≡ 1) × (code_of Words ≡ 2) × (code_of ReadFault ≡ 3) × (code_of (WriteFault 9) ≡ 4) × (code_of (SessionRefused fault) ≡ 5) × (code_of (LoadFault 1 16) ≡ 6)
codes_of fault = (refl, refl, refl, refl, refl, refl, refl)
