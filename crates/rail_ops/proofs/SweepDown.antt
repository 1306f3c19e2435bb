-- How far rails that are all held go down, each that is idle once those before it are off.
use Rattle.std.proofs.Common.{◌≡◌, ℕ, suc, ◌+◌, ◌<◌, ◌≤◌, Bool, true, false, cond, List, [], ◌∷◌, ◌++◌, Option, Some, None, refl, sym, ap, ◌∙◌, subst, arith, length, slice_get, take}
use Rattle.std.specs.Prelude.{Contains, count_by, option_and_then, if◌then◌else◌}
use Rattle.std.specs.Option.{option_map_or}
use Rattle.std.proofs.lemmas.Bool.{and_parts}
use Rattle.std.proofs.lemmas.List.{append_assoc}
use Rattle.std.proofs.lemmas.Option.{slice_get_within}
use Rattle.reg_outside.specs.Bus.{Bus}
use Rattle.board_graph.specs.Graph.{supply_at}
use Rattle.board.specs.declared.board.Board.{Board}
use Rattle.board.specs.declared.event.Event.{Event}
use Rattle.board.specs.declared.event.Event.TheVariants.{AbortDisable, PreDisable}
use Rattle.board.specs.declared.rail.Rail.{Rail}
use Rattle.board.specs.declared.write.Write.{Write}
use Rattle.board.specs.Rail.{is_on, part_field}
use Rattle.board.specs.Valid.{IsSoundBoard, IsValid}
use Rattle.board.specs.declared.part.Part.TheVariants.{Enable as EnableBit}
use Rattle.rail_law.specs.Moves.{Move, update_of_field, writes_of}
use Rattle.plain_board.specs.declared.plain.Plain.{Plain}
use Rattle.plain_board.specs.Plan.{is_idle, switch, sweep_off, with_off}
use Rattle.plain_board.specs.Untied.{HoldFields}
use Rattle.plain_board.proofs.Switches.{nothing_switched, switched_at}
use Rattle.rail_ops.specs.Sight.{Hands, ShowsSame}
use Rattle.rail_ops.specs.Taking.{Tells, updates_of}
use Rattle.rail_ops.specs.Inside.Falling.{CameDown, IsSighted, MayGoOff, WentDown, looks_idle}
use Rattle.rail_ops.specs.Inside.Raised.{ChangesBook, SwitchesOff, raised}
use Rattle.rail_ops.proofs.CameDown.{abort_shows, came_on, came_refused, down_none, idle_seen, may_go, sighted_off, went_on}
use Rattle.rail_ops.proofs.CameUp.{sum_but_one}
use Rattle.rail_ops.proofs.Upheld.{supply_inside}
use Rattle.rail_ops.proofs.WayDown.{sighted_same}

-- which rails of a sweep go off doesn't hang on what they told
sweep_told : (board : Board) (plain : Plain) (events : List (List Event)) (rails : List ℕ) → sweep_off board (record plain { events = events }) rails ≡ sweep_off board plain rails
sweep_told board plain events [] = refl
sweep_told board plain events (r ∷ rest) =
    ap (λ off. cond (is_idle board plain r) (switch 0 r ∷ off) (sweep_off board (record plain { events = events }) rest)) (sweep_told board (with_off board plain r) events rest)
    ∙ ap (λ on. cond (is_idle board plain r) (switch 0 r ∷ sweep_off board (with_off board plain r) rest) on) (sweep_told board plain events rest)

-- how many rails are on
abbrev on_count : Board → List (List ℕ) → ℕ
on_count board regs = count_by (λ rail. is_on rail regs) board.rails

module _ (board : Board) (sound : IsSoundBoard board) where
  -- one less once an idle rail is off
  one_fewer : (plain : Plain) → length plain.regs ≡ board.chips → HoldFields board plain.regs → (r : ℕ) → is_idle board plain r ≡ true → on_count board (with_off board plain r).regs + 1 ≡ on_count board plain.regs
  one_fewer plain chips hold r idle = by (slice_get board.rails r) refl (and_parts _ _ idle).0 where
    by : (o : Option Rail) → slice_get board.rails r ≡ o → option_map_or (λ (rail : Rail). is_on rail plain.regs) o false ≡ true → on_count board (with_off board plain r).regs + 1 ≡ on_count board plain.regs
    by None none on = absurd (cc)
    by (Some rail) at on =
        let turned = switched_at board sound plain.regs chips hold 0 (omega arith) r plain.regs (nothing_switched board sound plain.regs chips hold) in
        let sums = sum_but_one (λ (a : Rail). cond {A = ℕ} (is_on a (with_off board plain r).regs) 1 0) (λ (a : Rail). cond {A = ℕ} (is_on a plain.regs) 1 0) board.rails r rail at
        (λ k other other_at apart. ap (λ (t : Bool). cond {A = ℕ} t 1 0) (turned.others k other other_at apart)) in
        let before : cond {A = ℕ} (is_on rail plain.regs) 1 0 ≡ 1 = ap (λ (t : Bool). cond {A = ℕ} t 1 0) on in
        let after : cond {A = ℕ} (is_on rail (with_off board plain r).regs) 1 0 ≡ 0 = ap (λ (t : Bool). cond {A = ℕ} t 1 0) (turned.own rail at) in
        omega (arith, sums, before, after)

  few_by : (plain : Plain) → length plain.regs ≡ board.chips → HoldFields board plain.regs → (r : ℕ) (rest : List ℕ) (t : Bool) → is_idle board plain r ≡ t
      → (length (with_off board plain r).regs ≡ board.chips → HoldFields board (with_off board plain r).regs → length (sweep_off board (with_off board plain r) rest) ≤ on_count board (with_off board plain r).regs)
      → length (sweep_off board plain rest) ≤ on_count board plain.regs
      → length (cond t (switch 0 r ∷ sweep_off board (with_off board plain r) rest) (sweep_off board plain rest)) ≤ on_count board plain.regs
  few_by plain chips hold r rest true idle off on =
      let only = (switched_at board sound plain.regs chips hold 0 (omega arith) r plain.regs (nothing_switched board sound plain.regs chips hold)).only in
      let fewer = one_fewer plain chips hold r idle in
      let further = off (only.chips ∙ chips) (record { image = only.image; places = hold.places }) in
      omega (arith, fewer, further)
  few_by plain chips hold r rest false idle off on = on

  -- so no more rails go off than are on
  pub sweep_few : (plain : Plain) → length plain.regs ≡ board.chips → HoldFields board plain.regs → (rails : List ℕ) → length (sweep_off board plain rails) ≤ on_count board plain.regs
  sweep_few plain chips hold [] = omega arith
  sweep_few plain chips hold (r ∷ rest) =
      few_by plain chips hold r rest (is_idle board plain r) refl (λ kept holds. sweep_few (with_off board plain r) kept holds rest) (sweep_few plain chips hold rest)

module _ (board : Board) (plain : Plain) (r : ℕ) (rest : List ℕ) where
  sweep_stays : is_idle board plain r ≡ false → sweep_off board plain (r ∷ rest) ≡ sweep_off board plain rest
  sweep_stays idle = ap (λ t. cond t (switch 0 r ∷ sweep_off board (with_off board plain r) rest) (sweep_off board plain rest)) idle

  sweep_goes : is_idle board plain r ≡ true → sweep_off board plain (r ∷ rest) ≡ switch 0 r ∷ sweep_off board (raised board plain (switch 0 r ∷ [])) rest
  sweep_goes idle =
      ap (λ t. cond t (switch 0 r ∷ sweep_off board (with_off board plain r) rest) (sweep_off board plain rest)) idle
      ∙ ap (λ off. switch 0 r ∷ off) (sym (sweep_told board (with_off board plain r) (raised board plain (switch 0 r ∷ [])).events rest))

-- the last rail's writes before those of the rest
pub writes_more : (board : Board) (keep : Bool) (r : ℕ) (rail : Rail) → slice_get board.rails r ≡ Some rail → (moves : List Move) (before : List Write)
    → (before ++ (if keep then update_of_field (Some rail.desc.enable) 0 ∷ [] else [])) ++ (if keep then writes_of board moves else []) ≡ before ++ (if keep then writes_of board (switch 0 r ∷ moves) else [])
writes_more board keep r rail at moves before = by keep where
  by : (t : Bool) → (before ++ (if t then update_of_field (Some rail.desc.enable) 0 ∷ [] else [])) ++ (if t then writes_of board moves else []) ≡ before ++ (if t then writes_of board (switch 0 r ∷ moves) else [])
  by true = append_assoc before (update_of_field (Some rail.desc.enable) 0 ∷ []) (writes_of board moves) ∙ ap (λ o. before ++ update_of_field (option_and_then (part_field EnableBit) o) 0 ∷ writes_of board moves) (sym at)
  by false = append_assoc before [] []

module _ (first : Hands) (board : Board) (here : first.board ≡ board) (valid : IsValid board) (rails : List ℕ) (r : ℕ) (rest : List ℕ) (last : rails ≡ r ∷ rest) (rail : Rail) (at : slice_get board.rails r ≡ Some rail)
    (held : (i : ℕ) → i < length board.rails → Contains first.rails i) (seen : Hands) (same : ShowsSame first seen) where
  has : Contains first.rails r
  has = held r (slice_get_within board.rails r rail at)

  valid_first : IsValid first.board
  valid_first = subst IsValid (sym here) valid

  at_first : slice_get first.board.rails r ≡ Some rail
  at_first = ap (λ (b : Board). slice_get b.rails r) here ∙ at

  has_seen : Contains seen.rails r
  has_seen = subst (λ (rs : List ℕ). Contains rs r) (sym same.rails) has

  valid_seen : IsValid seen.board
  valid_seen = subst IsValid (sym same.board) valid_first

  at_seen : slice_get seen.board.rails r ≡ Some rail
  at_seen = ap (λ (b : Board). slice_get b.rails r) same.board ∙ at_first

  module _ (plain : Plain) (sighted : IsSighted first plain) where
    abbrev moves : List Move
    moves = sweep_off first.board plain rails

    idle_is : is_idle first.board plain r ≡ looks_idle first r
    idle_is = sym (idle_seen first valid_first plain sighted r rail at_first has)

    pub sighted_seen : IsSighted seen plain
    sighted_seen = sighted_same first seen plain same sighted

    -- it isn't idle: the rest go down as if from the start
    module _ (used : looks_idle first r ≡ false) where
      fewer : moves ≡ sweep_off first.board plain rest
      fewer = ap (sweep_off first.board plain) last ∙ sweep_stays first.board plain r rest (idle_is ∙ used)

      pub went_by : (after : Hands) (bus bus' : Bus) (made : ℕ) (refused : Option ℕ) → WentDown seen after bus bus' made refused plain (sweep_off seen.board plain rest) → WentDown first after bus bus' made refused plain moves
      went_by after bus bus' made refused went =
          subst (λ (ms : List Move). WentDown first after bus bus' made refused plain ms) (sym fewer)
          (let moved : WentDown (record seen { board = first.board }) after bus bus' made refused plain (sweep_off first.board plain rest) =
          subst (λ (b : Board). WentDown (record seen { board = b }) after bus bus' made refused plain (sweep_off b plain rest)) same.board went in
          record { within = moved.within; shows = moved.shows; tells = moved.tells })

      pub came_by : (after : Hands) (bus bus' : Bus) (made : ℕ) (refused : Option ℕ) → CameDown seen after bus bus' made refused plain (sweep_off seen.board plain rest) → CameDown first after bus bus' made refused plain moves
      came_by after bus bus' made refused came = record {
        went = went_by after bus bus' made refused came.went;
        all = λ none. came.all none ∙ ap (λ (b : Board). length (sweep_off b plain rest)) same.board ∙ sym (ap (λ (ms : List Move). length ms) fewer);
        next = λ i is. ap (λ (ms : List Move). slice_get ms made) fewer ∙ ap (λ (b : Board). slice_get (sweep_off b plain rest) made) (sym same.board) ∙ came.next i is;
      }

      pub kept_by : (keep : Bool) (made : ℕ) (before writes : List Write) → writes ≡ before ++ (if keep then writes_of seen.board (take made (sweep_off seen.board plain rest)) else [])
          → writes ≡ before ++ (if keep then writes_of first.board (take made moves) else [])
      kept_by keep made before writes is =
          is ∙ ap (λ (b : Board). before ++ (if keep then writes_of b (take made (sweep_off b plain rest)) else [])) same.board
          ∙ ap (λ (ms : List Move). before ++ (if keep then writes_of first.board (take made ms) else [])) (sym fewer)

    module _ (looks : looks_idle first r ≡ true) where
      idle : is_idle first.board plain r ≡ true
      idle = idle_is ∙ looks

      idle_too : is_idle seen.board plain r ≡ true
      idle_too = ap (λ (b : Board). is_idle b plain r) same.board ∙ idle

      abbrev next : Plain
      next = raised first.board plain (switch 0 r ∷ [])

      are : moves ≡ switch 0 r ∷ sweep_off first.board next rest
      are = ap (sweep_off first.board plain) last ∙ sweep_goes first.board plain r rest idle

      -- it may go off
      pub free : MayGoOff seen r
      free =
          may_go seen valid_seen plain sighted_seen r rail at_seen has_seen idle_too
          (λ s supplies. subst (λ (rs : List ℕ). Contains rs s) (sym same.rails)
          (held s (supply_inside board valid r s (ap (λ (b : Board). supply_at b.graph r) (sym (same.board ∙ here)) ∙ supplies))))

      -- the memory was out before it was tried
      pub untried : (after : Hands) (bus : Bus) → ShowsSame seen after → WentDown first after bus bus 0 None plain moves
      untried after bus still = down_none first after bus plain moves sighted.shows (record {
        board = still.board ∙ same.board;
        rails = still.rails ∙ same.rails;
        bits = λ i part. still.bits i part ∙ same.bits i part;
        books = λ i. still.books i ∙ same.books i;
      })

      -- the bus refused it
      pub refuses : (after : Hands) (bus bus' : Bus) → ChangesBook r (record (seen.books r) { events = (seen.books r).events ++ PreDisable ∷ AbortDisable ∷ [] }) seen after → Tells [] true bus bus'
          → CameDown first after bus bus' 0 (Some r) plain moves
      refuses after bus bus' changes told =
          came_refused first after bus bus' plain r moves (sweep_off first.board next rest) are (abort_shows seen valid_seen plain sighted_seen r rail at_seen has_seen after changes) told

      -- it went off
      module _ (mid : Hands) (step : SwitchesOff r seen mid) where
        pub sighted_mid : IsSighted mid next
        sighted_mid =
            subst (λ (b : Board). IsSighted mid (raised b plain (switch 0 r ∷ []))) same.board
            (sighted_off seen valid_seen plain sighted_seen r rail at_seen has_seen idle_too mid step)

        module _ (after : Hands) (bus bus' bus'' : Bus) (told : Tells (updates_of board (switch 0 r ∷ [])) false bus bus') (made : ℕ) where
          told_first : Tells (updates_of first.board (switch 0 r ∷ [])) false bus bus'
          told_first = subst (λ (b : Board). Tells (updates_of b (switch 0 r ∷ [])) false bus bus') (sym here) told

          pub goes_further : (refused : Option ℕ) → WentDown mid after bus' bus'' made refused next (sweep_off mid.board next rest) → WentDown first after bus bus'' (made + 1) refused plain moves
          goes_further = went_on first mid after (step.board ∙ same.board) bus bus' bus'' plain r moves (λ (b : Board). sweep_off b next rest) are told_first made

          pub comes_further : (refused : Option ℕ) → CameDown mid after bus' bus'' made refused next (sweep_off mid.board next rest) → CameDown first after bus bus'' (made + 1) refused plain moves
          comes_further = came_on first mid after (step.board ∙ same.board) bus bus' bus'' plain r moves (λ (b : Board). sweep_off b next rest) are told_first made

        pub kept_further : (keep : Bool) (made : ℕ) (before between writes : List Write) → between ≡ before ++ (if keep then update_of_field (Some rail.desc.enable) 0 ∷ [] else [])
            → writes ≡ between ++ (if keep then writes_of mid.board (take made (sweep_off mid.board next rest)) else []) → writes ≡ before ++ (if keep then writes_of first.board (take (made + 1) moves) else [])
        kept_further keep made before between writes first_kept is =
            is ∙ ap (λ (b : Board). between ++ (if keep then writes_of b (take made (sweep_off b next rest)) else [])) (step.board ∙ same.board)
            ∙ ap (λ (ws : List Write). ws ++ (if keep then writes_of first.board (take made (sweep_off first.board next rest)) else [])) first_kept
            ∙ writes_more first.board keep r rail at_first (take made (sweep_off first.board next rest)) before
            ∙ ap (λ (ms : List Move). before ++ (if keep then writes_of first.board ms else [])) (sym (ap (λ (n : ℕ). take n moves) one_more ∙ ap (take (suc made)) are))
          where
            one_more : made + 1 ≡ suc made
            one_more = omega arith
