-- A board is sound, whatever the bytes are that its rails' names don't use.
use Rattle.std.proofs.Common.{◌≡◌, ℕ, zero, suc, ◌<◌, not, ◌&&◌, ◌==◌, List, [], ◌∷◌, Option, None, Some, refl, sym, ap, ◌∙◌, arith, map, length, get_or, slice_get, option_and_then, IfSome, All}
use Rattle.std.proofs.Math.Path.{fun_ext}
use Rattle.std.proofs.lemmas.List.{length-map, get_or-map}
use Rattle.std.proofs.lemmas.List.Elements.{All-weaker}
use Rattle.std.proofs.lemmas.Option.{IfSome_then}
use Rattle.std.proofs.lemmas.Simd.{map-map}
use Rattle.chip_regs.specs.declared.field.Field.{Field}
use Rattle.board.specs.declared.board.Board.{Board}
use Rattle.board.specs.declared.part.Part.{Part}
use Rattle.board.specs.declared.rail.Rail.{Rail}
use Rattle.board.specs.declared.sleep.Sleep.{Sleep}
use Rattle.board.specs.Rail.{part_field}
use Rattle.board.specs.Fields.{field_at}
use Rattle.board.specs.Valid.{HasSelector, SleepsWell, IsSoundRail, supply_of, changes, is_linked, IsGraphOf, IsPrinted, HasNames, IsSoundBoard}
use Rattle.board_draft.specs.Sketch.{trimmed}
use Rattle.board_draft.proofs.SoundLists.{all_from_map}

-- what doesn't read a name's spare bytes reads the same of each rail
pub same_read : {A : Type 0} (read : Option Rail → A) → ((rail : Rail) → read (Some (trimmed rail)) ≡ read (Some rail))
    → (rails : List Rail) (r : ℕ) → read (slice_get (map trimmed rails) r) ≡ read (slice_get rails r)
same_read read same [] r = refl
same_read read same (rail ∷ rails) zero = same rail
same_read read same (rail ∷ rails) (suc r) = same_read read same rails r

same_selector : (rail : Rail) (field : Field) (uv : ℕ) → HasSelector (trimmed rail) field uv → HasSelector rail field uv
same_selector rail field uv has = record { sel = has.sel; value = has.value; fits = has.fits }

same_sleep : (rail : Rail) (sleep : Option Sleep) → SleepsWell (trimmed rail) sleep → SleepsWell rail sleep
same_sleep rail sleep well =
    IfSome_then sleep well
    (λ s of_value. IfSome_then s.uv of_value
    (λ uv of_field. IfSome_then rail.desc.suspend_selector of_field
    (λ field has. same_selector rail field uv has)))

same_rail : (chips : ℕ) (rail : Rail) → IsSoundRail chips (trimmed rail) → IsSoundRail chips rail
same_rail chips rail sound = record {
  desc = sound.desc;
  changeable = sound.changeable;
  moves = sound.moves;
  sleeps = All-weaker (SleepsWell (trimmed rail)) (SleepsWell rail) (same_sleep rail) rail.limits.sleeps sound.sleeps;
  some_value = sound.some_value;
}

-- of a supply that may be there, whether it changes
same_changes : (rails : List Rail) (supply : Option ℕ)
    → changes (option_and_then (λ s. slice_get (map trimmed rails) s) supply) ≡ changes (option_and_then (λ s. slice_get rails s) supply)
same_changes rails None = refl
same_changes rails (Some s) = same_read changes (λ _. refl) rails s

module _ (board : Board) where
  -- the board without those bytes
  abbrev bare : Board
  bare = record board { rails = map trimmed board.rails }

  same_graph : IsGraphOf bare → IsGraphOf board
  same_graph is = record {
    supplies = is.supplies ∙ map-map supply_of trimmed board.rails;
    groups = is.groups ∙ map-map (λ rail. rail.group) trimmed board.rails;
    links = is.links ∙ map-map (is_linked bare) trimmed board.rails
        ∙ ap (λ linked. map linked board.rails) (fun_ext (λ rail. ap (λ changed. not (rail.desc.dropout == 0) && changed) (same_changes board.rails (supply_of rail))));
    rails = All-weaker _ (λ rail. IfSome rail.supply (λ s. s.0 < length board.rails))
        (λ rail within. IfSome_then rail.supply within (λ s less. rw (← (length-map board.rails trimmed)) less)) board.rails
        (all_from_map (λ rail. IfSome rail.supply (λ s. s.0 < length (map trimmed board.rails))) trimmed board.rails is.rails);
  }

  same_names : HasNames bare → HasNames board
  same_names is = record {
    differ = λ i j d before within same.
        let e : length (map trimmed board.rails) ≡ length board.rails = length-map board.rails trimmed in
        let first : get_or (map trimmed board.rails) i (trimmed d) ≡ trimmed (get_or board.rails i d) = get_or-map trimmed board.rails i d (trimmed d) (omega arith) in
        let second : get_or (map trimmed board.rails) j (trimmed d) ≡ trimmed (get_or board.rails j d) = get_or-map trimmed board.rails j d (trimmed d) within in
        is.differ i j (trimmed d) before (omega arith) (ap (λ (rail : Rail). rail.name.bytes) first ∙ same ∙ sym (ap (λ (rail : Rail). rail.name.bytes) second));
    printed = all_from_map (λ rail. All IsPrinted rail.name.bytes) trimmed board.rails is.printed;
  }

  same_field : (r : ℕ) (part : Part) → field_at bare r part ≡ field_at board r part
  same_field r part = same_read (option_and_then (part_field part)) (λ _. refl) board.rails r

  -- nothing reads those bytes
  pub trimmed_is_sound : IsSoundBoard (record board { rails = map trimmed board.rails }) → IsSoundBoard board
  trimmed_is_sound sound =
      let e : length (map trimmed board.rails) ≡ length board.rails = length-map board.rails trimmed in
      record {
        some = omega (arith, sound.some);
        few = omega (arith, sound.few);
        rails = All-weaker _ (IsSoundRail board.chips) (same_rail board.chips) board.rails (all_from_map (IsSoundRail board.chips) trimmed board.rails sound.rails);
        graph = same_graph sound.graph;
        spreads = all_from_map (λ rail. rail.group < length board.spread) trimmed board.rails sound.spreads;
        order = sound.order;
        apart_from_supply = sound.apart_from_supply;
        names = same_names sound.names;
        apart = λ r s part other f g ne first second. sound.apart r s part other f g ne (same_field r part ∙ first) (same_field s other ∙ second);
      }
