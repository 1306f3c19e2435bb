-- A board whose rails have other kept values is as valid.
use Rattle.std.proofs.Common.{◌≡◌, ◌≢◌, ℕ, zero, suc, ◌+◌, ◌<◌, Bool, true, false, cond, not, ◌&&◌, List, [], ◌∷◌, Option, Some, None, refl, sym, ap, ◌∙◌, subst, arith, map, filter, length, get_or, slice_get, slice_index, All, zero-add}
use Rattle.std.proofs.Math.Path.{fun_ext}
use Rattle.std.specs.Prelude.{◌==◌, IfSome, option_map, option_and_then}
use Rattle.std.specs.List.{enumerate_from}
use Rattle.std.proofs.lemmas.List.{length-map}
use Rattle.std.proofs.lemmas.List.Elements.{All-weaker}
use Rattle.std.proofs.lemmas.List.FromFn.{length-enumerate_from}
use Rattle.std.proofs.lemmas.Option.{IfSome_then, slice_get-get_or, get_or_from_slice_get, slice_get_within}
use Rattle.chip_regs.specs.declared.field.Field.{Field}
use Rattle.board.specs.declared.board.Board.{Board}
use Rattle.board.specs.declared.part.Part.{Part}
use Rattle.board.specs.declared.rail.Rail.{Rail}
use Rattle.board.specs.declared.sleep.Sleep.{Sleep}
use Rattle.board.specs.Fields.{field_at}
use Rattle.board.specs.Gaps.{AreNeighbours, IsSpreadOf, HasNarrowGaps}
use Rattle.board.specs.Rail.{allowed, is_within, part_field}
use Rattle.board.specs.Table.{values_of}
use Rattle.board.specs.Valid.{HasSelector, SleepsWell, IsSoundRail, CarriesSystemLoad, supply_of, changes, is_linked, IsGraphOf, IsPrinted, HasNames, IsSoundBoard, IsValid}
use Rattle.plain_board.proofs.MovedAlone.{all_at}
use Rattle.board_load.specs.Loading.{board_at}

-- what holds of each element that stands at a place holds of all
pub all_by : {X : Type 0} (P : X → Type 0) (xs : List X) → ((i : ℕ) (x : X) → slice_get xs i ≡ Some x → P x) → All P xs
all_by P xs each k d within = each k (get_or xs k d) (slice_get-get_or xs k d within)

-- what stands at a place of a list that is made of another one's elements and their places
made_at : {X Y : Type 0} (g : ℕ × X → Y) (n : ℕ) (xs : List X) (i : ℕ) → slice_get (map g (enumerate_from n xs)) i ≡ option_map (λ x. g (n + i, x)) (slice_get xs i)
made_at g n [] i = refl
made_at g n (x ∷ xs) zero = let same : n ≡ n + zero = omega arith in ap (λ k. Some (g (k, x))) same
made_at g n (x ∷ xs) (suc i) = let same : n + 1 + i ≡ n + suc i = omega arith in made_at g (n + 1) xs i ∙ ap (λ k. option_map (λ y. g (k, y)) (slice_get xs i)) same

pub numbered_at : {X Y : Type 0} (g : ℕ × X → Y) (xs : List X) (i : ℕ) → slice_get (map g (enumerate_from 0 xs)) i ≡ option_map (λ x. g (i, x)) (slice_get xs i)
numbered_at g xs i = made_at g 0 xs i ∙ ap (λ k. option_map (λ x. g (k, x)) (slice_get xs i)) (zero-add i)

-- a rail with another kept value
abbrev pub kept_at : ℕ → Rail → Rail
kept_at v rail = record rail { kept_uv = v }

-- a rail whose values are others only where it can't change
same_selector : (v : ℕ) (rail : Rail) (field : Field) (uv : ℕ) → HasSelector rail field uv → HasSelector (kept_at v rail) field uv
same_selector v rail field uv has = record { sel = has.sel; value = has.value; fits = has.fits }

same_sleep : (v : ℕ) (rail : Rail) (sleep : Option Sleep) → SleepsWell rail sleep → SleepsWell (kept_at v rail) sleep
same_sleep v rail sleep well =
    IfSome_then sleep well
    (λ s of_value. IfSome_then s.uv of_value
    (λ uv of_field. IfSome_then rail.desc.suspend_selector of_field
    (λ field has. same_selector v rail field uv has)))

abbrev values_by : Bool → List (ℕ × ℕ) → ℕ → List ℕ
values_by t ps v = map (λ pair. pair.1) (cond t ps ((0, v) ∷ []))

some_by : (t : Bool) (ps : List (ℕ × ℕ)) (v w : ℕ) → values_by t ps v ≢ [] → values_by t ps w ≢ []
some_by true ps v w some = some
some_by false ps v w some = λ is. cc

same_by : (t : Bool) (ps : List (ℕ × ℕ)) (v w : ℕ) → t ≡ true → values_by t ps v ≡ values_by t ps w
same_by true ps v w is = refl
same_by false ps v w is = absurd (cc)

abbrev within_bounds : Rail → List (ℕ × ℕ)
within_bounds rail = filter (λ pair. is_within rail.limits.bounds pair.1) (values_of rail.desc.table)

kept_values : (v : ℕ) (rail : Rail) → rail.changeable ≡ true → allowed (kept_at v rail) ≡ allowed rail
kept_values v rail changeable = same_by rail.changeable (within_bounds rail) v rail.kept_uv changeable

kept_rail : (chips v : ℕ) (rail : Rail) → IsSoundRail chips rail → IsSoundRail chips (kept_at v rail)
kept_rail chips v rail sound = record {
  desc = sound.desc;
  changeable = sound.changeable;
  moves = sound.moves;
  sleeps = All-weaker (SleepsWell rail) (SleepsWell (kept_at v rail)) (same_sleep v rail) rail.limits.sleeps sound.sleeps;
  some_value = some_by rail.changeable (within_bounds rail) rail.kept_uv v sound.some_value;
}

module _ (board : Board) (values : List ℕ) where
  abbrev at : Board
  at = board_at board values

  -- the rail that stands at a place
  pub record WasKept (i : ℕ) (rail : Rail) : Type 0 where
    pub old : Rail
    pub there : slice_get board.rails i ≡ Some old
    pub is : rail ≡ kept_at (slice_index values i) old

  abbrev new_rail : ℕ × Rail → Rail
  new_rail rail = record rail.1 { kept_uv = slice_index values rail.0 }

  pub was_kept : (i : ℕ) (rail : Rail) → slice_get at.rails i ≡ Some rail → WasKept i rail
  was_kept i rail there = by (slice_get board.rails i) refl (sym (numbered_at new_rail board.rails i) ∙ there) where
    by : (o : Option Rail) → slice_get board.rails i ≡ o → option_map (λ a. new_rail (i, a)) o ≡ Some rail → WasKept i rail
    by None was is = absurd (cc)
    by (Some old) was is = record { old = old; there = was; is = sym (same_rail is) } where
      same_rail : Some (new_rail (i, old)) ≡ Some rail → new_rail (i, old) ≡ rail
      same_rail e = cc

  pub as_many : length at.rails ≡ length board.rails
  as_many = length-map (enumerate_from 0 board.rails) new_rail ∙ length-enumerate_from 0 board.rails

  -- what doesn't read the kept values
  reads_from : {A : Type 0} (read : Rail → A) → ((v : ℕ) (rail : Rail) → read (kept_at v rail) ≡ read rail) → (n : ℕ) (rails : List Rail) → map read (map new_rail (enumerate_from n rails)) ≡ map read rails
  reads_from read same n [] = refl
  reads_from read same n (rail ∷ rails) = rw (same (slice_index values n) rail) (ap (λ rest. read rail ∷ rest) (reads_from read same (n + 1) rails))

  pub reads_same : {A : Type 0} (read : Rail → A) → ((v : ℕ) (rail : Rail) → read (kept_at v rail) ≡ read rail) → map read at.rails ≡ map read board.rails
  reads_same read same = reads_from read same 0 board.rails

  same_at : {A : Type 0} (read : Option Rail → A) → ((v : ℕ) (rail : Rail) → read (Some (kept_at v rail)) ≡ read (Some rail)) → (i : ℕ) → read (slice_get at.rails i) ≡ read (slice_get board.rails i)
  same_at read same i = ap read (numbered_at new_rail board.rails i) ∙ by (slice_get board.rails i) where
    by : (o : Option Rail) → read (option_map (λ a. new_rail (i, a)) o) ≡ read o
    by None = refl
    by (Some rail) = same (slice_index values i) rail

  pub same_field : (r : ℕ) (part : Part) → field_at at r part ≡ field_at board r part
  same_field r part = same_at (option_and_then (part_field part)) (λ v rail. refl) r

  same_changes : (supply : Option ℕ) → changes (option_and_then (λ s. slice_get at.rails s) supply) ≡ changes (option_and_then (λ s. slice_get board.rails s) supply)
  same_changes None = refl
  same_changes (Some s) = same_at changes (λ v rail. refl) s

  -- what holds of each rail holds of it with another kept value
  all_kept : (P Q : Rail → Type 0) → ((v : ℕ) (rail : Rail) → P rail → Q (kept_at v rail)) → All P board.rails → All Q at.rails
  all_kept P Q each all = all_by Q at.rails (λ i rail there.
      let was = was_kept i rail there in
      subst Q (sym was.is) (each (slice_index values i) was.old (all_at P board.rails i was.old all was.there)))

  same_graph : IsGraphOf board → IsGraphOf at
  same_graph is = record {
    supplies = is.supplies ∙ sym (reads_same supply_of (λ v rail. refl));
    groups = is.groups ∙ sym (reads_same (λ rail. rail.group) (λ v rail. refl));
    links = is.links
        ∙ ap (λ (linked : Rail → Bool). map linked board.rails) (fun_ext (λ (rail : Rail). ap (λ changed. not (rail.desc.dropout == 0) && changed) (sym (same_changes (supply_of rail)))))
        ∙ sym (reads_same (is_linked at) (λ v rail. refl));
    rails = all_kept (λ rail. IfSome rail.supply (λ s. s.0 < length board.rails)) (λ rail. IfSome rail.supply (λ s. s.0 < length at.rails))
        (λ v rail within. IfSome_then rail.supply within (λ s less. omega (arith, less, as_many))) is.rails;
  }

  same_names : HasNames board → HasNames at
  same_names is = record {
    differ = λ i j d before within same.
        let first = was_kept i (get_or at.rails i d) (slice_get-get_or at.rails i d (omega arith)) in
        let second = was_kept j (get_or at.rails j d) (slice_get-get_or at.rails j d within) in
        let one : get_or board.rails i first.old ≡ first.old = get_or_from_slice_get board.rails i first.old first.old first.there in
        let other : get_or board.rails j first.old ≡ second.old = get_or_from_slice_get board.rails j second.old first.old second.there in
        is.differ i j first.old before (slice_get_within board.rails j second.old second.there)
        (ap (λ (rail : Rail). rail.name.bytes) one ∙ ap (λ (rail : Rail). rail.name.bytes) (sym first.is) ∙ same
        ∙ ap (λ (rail : Rail). rail.name.bytes) second.is ∙ ap (λ (rail : Rail). rail.name.bytes) (sym other));
    printed = all_kept (λ rail. All IsPrinted rail.name.bytes) (λ rail. All IsPrinted rail.name.bytes) (λ v rail printed. printed) is.printed;
  }

  pub kept_is_sound : IsSoundBoard board → IsSoundBoard at
  kept_is_sound sound = record {
    some = omega (arith, sound.some, as_many);
    few = omega (arith, sound.few, as_many);
    rails = all_kept (IsSoundRail board.chips) (IsSoundRail board.chips) (kept_rail board.chips) sound.rails;
    graph = same_graph sound.graph;
    spreads = all_kept (λ rail. rail.group < length board.spread) (λ rail. rail.group < length board.spread) (λ v rail less. less) sound.spreads;
    order = sound.order;
    apart_from_supply = sound.apart_from_supply;
    names = same_names sound.names;
    apart = λ r s part other f g ne first second. sound.apart r s part other f g ne (sym (same_field r part) ∙ first) (sym (same_field s other) ∙ second);
  }

  same_neighbours : (v : ℕ) (rail : Rail) (low high : ℕ) → rail.changeable ≡ true → AreNeighbours (allowed (kept_at v rail)) low high → AreNeighbours (allowed rail) low high
  same_neighbours v rail low high changeable are = subst (λ ns. AreNeighbours ns low high) (kept_values v rail changeable) are

  same_spread : (r spread : ℕ) → IsSpreadOf at r spread → IsSpreadOf board r spread
  same_spread r spread is = record { other = is.other; group = is.group; coupled = is.coupled; in_group = is.in_group; spread_is = is.spread_is }

  kept_gaps : (r v : ℕ) (rail : Rail) → rail.changeable ≡ true → HasNarrowGaps board r rail → HasNarrowGaps at r (kept_at v rail)
  kept_gaps r v rail changeable narrow = record {
    steps = λ some low high are. narrow.steps some low high (same_neighbours v rail low high changeable are);
    spreads = λ spread is low high are. narrow.spreads spread (same_spread r spread is) low high (same_neighbours v rail low high changeable are);
  }

  pub kept_is_valid : IsValid board → IsValid (board_at board values)
  kept_is_valid valid = record {
    sound = kept_is_sound valid.sound;
    loads = all_kept CarriesSystemLoad CarriesSystemLoad (λ v rail carries. carries) valid.loads;
    gaps = λ r rail there changeable.
        let was = was_kept r rail there in
        subst (HasNarrowGaps at r) (sym was.is)
        (kept_gaps r (slice_index values r) was.old (ap (λ (a : Rail). a.changeable) (sym was.is) ∙ changeable)
        (valid.gaps r was.old was.there (ap (λ (a : Rail). a.changeable) (sym was.is) ∙ changeable)));
  }
