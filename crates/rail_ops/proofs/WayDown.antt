-- How far the rails of a way go down, from what is seen of the first of them.
use Rattle.std.proofs.Common.{◌≡◌, ℕ, ◌+◌, true, false, List, [], ◌∷◌, ◌++◌, Option, Some, None, sym, ap, ◌∙◌, subst, length, slice_get, All}
use Rattle.std.specs.Prelude.{Contains, option_map}
use Rattle.std.proofs.lemmas.Option.{slice_get_within}
use Rattle.reg_outside.specs.Bus.{Bus}
use Rattle.board_graph.specs.Graph.{supply_at}
use Rattle.board.specs.declared.board.Board.{Board}
use Rattle.board.specs.declared.event.Event.TheVariants.{AbortDisable, PreDisable}
use Rattle.board.specs.declared.rail.Rail.{Rail}
use Rattle.board.specs.declared.rail_id.RailId.{RailId}
use Rattle.board.specs.Valid.{IsValid}
use Rattle.rail_law.specs.Moves.{Move}
use Rattle.rail_state.specs.Sight.{IsGuarded}
use Rattle.plain_board.specs.declared.plain.Plain.{Plain}
use Rattle.plain_board.specs.Plan.{chain_off, is_idle, switch, upward}
use Rattle.plain_board.specs.Untied.{HoldFields}
use Rattle.rail_ops.specs.Sight.{Hands, ShowsSame}
use Rattle.rail_ops.specs.Taking.{Tells, updates_of}
use Rattle.rail_ops.specs.Inside.Falling.{CameDown, IsSighted, MayGoOff, WentDown, looks_idle}
use Rattle.rail_ops.specs.Inside.Raised.{ChangesBook, SwitchesOff, raised}
use Rattle.rail_ops.specs.Inside.Rising.{LeadsUp}
use Rattle.rail_ops.proofs.CameDown.{abort_shows, came_nothing, came_on, came_refused, chain_goes, chain_stays, down_none, idle_seen, may_go, sighted_off, went_on}
use Rattle.rail_ops.proofs.Exactly.{shows_same}
use Rattle.rail_ops.proofs.Ready.{guarded}
use Rattle.rail_ops.proofs.Stepped.{supply_read}
use Rattle.rail_ops.proofs.Ways.{above, first_of, rest_of, supply_of_all, way_is}

-- from where the same is shown the same plain boards are seen
pub sighted_same : (first seen : Hands) (plain : Plain) → ShowsSame first seen → IsSighted first plain → IsSighted seen plain
sighted_same first seen plain same sighted = record {
  chips = sighted.chips ∙ ap (λ (b : Board). b.chips) (sym same.board);
  hold = subst (λ (b : Board). HoldFields b plain.regs) (sym same.board) sighted.hold;
  rails = sighted.rails ∙ ap (λ (b : Board). length b.rails) (sym same.board);
  shows = shows_same first seen plain same sighted.shows;
}

module _ (first : Hands) (board : Board) (here : first.board ≡ board) (valid : IsValid board) (most : ℕ) (o : Option RailId) (id : RailId) (is : o ≡ Some id) (rail : Rail) (at : slice_get board.rails id.0 ≡ Some rail)
    (up : LeadsUp board most (option_map (λ (i : RailId). i.0) o)) (held : All (λ i. Contains first.rails i) (upward board.graph most (option_map (λ (i : RailId). i.0) o))) where
  abbrev r : ℕ
  r = id.0

  abbrev pub rails : List ℕ
  rails = upward board.graph most (option_map (λ (i : RailId). i.0) o)

  pub leads : LeadsUp board most (Some r)
  leads = subst (λ (p : Option RailId). LeadsUp board most (option_map (λ (i : RailId). i.0) p)) is up

  helds : All (λ i. Contains first.rails i) (upward board.graph most (Some r))
  helds = subst (λ (p : Option RailId). All (λ i. Contains first.rails i) (upward board.graph most (option_map (λ (i : RailId). i.0) p))) is held

  abbrev pub higher : List ℕ
  higher = above board valid most r rail at leads

  way : rails ≡ r ∷ higher
  way = ap (λ (p : Option RailId). upward board.graph most (option_map (λ (i : RailId). i.0) p)) is ∙ way_is board valid most r rail at leads

  pub has : Contains first.rails r
  has = first_of board valid most r rail at leads (λ i. Contains first.rails i) helds

  pub rest_held : All (λ i. Contains first.rails i) higher
  rest_held = rest_of board valid most r rail at leads (λ i. Contains first.rails i) helds

  pub watched : IsGuarded board first.rails r
  watched = guarded board valid first.rails r (slice_get_within board.rails r rail at) has

  valid_first : IsValid first.board
  valid_first = subst IsValid (sym here) valid

  at_first : slice_get first.board.rails r ≡ Some rail
  at_first = ap (λ (b : Board). slice_get b.rails r) here ∙ at

  abbrev moves : Plain → List Move
  moves plain = chain_off first.board plain rails

  module _ (seen : Hands) (same : ShowsSame first seen) where
    pub has_seen : Contains seen.rails r
    has_seen = subst (λ (rs : List ℕ). Contains rs r) (sym same.rails) has

    valid_seen : IsValid seen.board
    valid_seen = subst IsValid (sym same.board) valid_first

    at_seen : slice_get seen.board.rails r ≡ Some rail
    at_seen = ap (λ (b : Board). slice_get b.rails r) same.board ∙ at_first

    module _ (plain : Plain) (sighted : IsSighted first plain) where
      idle_is : is_idle first.board plain r ≡ looks_idle first r
      idle_is = sym (idle_seen first valid_first plain sighted r rail at_first has)

      -- it isn't idle
      pub stays_on : (bus : Bus) → looks_idle first r ≡ false → CameDown first seen bus bus 0 None plain (moves plain)
      stays_on bus used = came_nothing first seen bus plain (moves plain) (ap (chain_off first.board plain) way ∙ chain_stays first.board plain r higher (idle_is ∙ used)) sighted.shows same

      module _ (looks : looks_idle first r ≡ true) where
        idle : is_idle first.board plain r ≡ true
        idle = idle_is ∙ looks

        idle_too : is_idle seen.board plain r ≡ true
        idle_too = ap (λ (b : Board). is_idle b plain r) same.board ∙ idle

        sighted_seen : IsSighted seen plain
        sighted_seen = sighted_same first seen plain same sighted

        are : moves plain ≡ switch 0 r ∷ chain_off first.board (raised first.board plain (switch 0 r ∷ [])) higher
        are = ap (chain_off first.board plain) way ∙ chain_goes first.board plain r higher idle

        -- it may go off
        pub free : MayGoOff seen r
        free =
            may_go seen valid_seen plain sighted_seen r rail at_seen has_seen idle_too
            (λ s supplies. subst (λ (rs : List ℕ). Contains rs s) (sym same.rails)
            (supply_of_all board valid most r rail at leads (λ i. Contains first.rails i) rest_held s
            (sym (supply_read board valid r rail at) ∙ ap (λ (b : Board). supply_at b.graph r) (sym (same.board ∙ here)) ∙ supplies)))

        -- the memory was out before it was tried
        pub untried : (after : Hands) (bus : Bus) → ShowsSame seen after → WentDown first after bus bus 0 None plain (moves plain)
        untried after bus still = down_none first after bus plain (moves plain) sighted.shows (record {
          board = still.board ∙ same.board;
          rails = still.rails ∙ same.rails;
          bits = λ i part. still.bits i part ∙ same.bits i part;
          books = λ i. still.books i ∙ same.books i;
        })

        -- the bus refused it
        pub refuses : (after : Hands) (bus bus' : Bus) → ChangesBook r (record (seen.books r) { events = (seen.books r).events ++ PreDisable ∷ AbortDisable ∷ [] }) seen after → Tells [] true bus bus'
            → CameDown first after bus bus' 0 (Some r) plain (moves plain)
        refuses after bus bus' changes told =
            came_refused first after bus bus' plain r (moves plain) (chain_off first.board (raised first.board plain (switch 0 r ∷ [])) higher) are
            (abort_shows seen valid_seen plain sighted_seen r rail at_seen has_seen after changes) told

        -- it went off
        module _ (mid : Hands) (step : SwitchesOff r seen mid) where
          pub sighted_mid : IsSighted mid (raised first.board plain (switch 0 r ∷ []))
          sighted_mid =
              subst (λ (b : Board). IsSighted mid (raised b plain (switch 0 r ∷ []))) same.board
              (sighted_off seen valid_seen plain sighted_seen r rail at_seen has_seen idle_too mid step)

          module _ (after : Hands) (bus bus' bus'' : Bus) (told : Tells (updates_of board (switch 0 r ∷ [])) false bus bus') (made : ℕ) where
            told_first : Tells (updates_of first.board (switch 0 r ∷ [])) false bus bus'
            told_first = subst (λ (b : Board). Tells (updates_of b (switch 0 r ∷ [])) false bus bus') (sym here) told

            pub goes_further : (refused : Option ℕ) → WentDown mid after bus' bus'' made refused (raised first.board plain (switch 0 r ∷ [])) (chain_off mid.board (raised first.board plain (switch 0 r ∷ [])) higher)
                → WentDown first after bus bus'' (made + 1) refused plain (moves plain)
            goes_further = went_on first mid after (step.board ∙ same.board) bus bus' bus'' plain r (moves plain) (λ (b : Board). chain_off b (raised first.board plain (switch 0 r ∷ [])) higher) are told_first made

            pub comes_further : (refused : Option ℕ) → CameDown mid after bus' bus'' made refused (raised first.board plain (switch 0 r ∷ [])) (chain_off mid.board (raised first.board plain (switch 0 r ∷ [])) higher)
                → CameDown first after bus bus'' (made + 1) refused plain (moves plain)
            comes_further = came_on first mid after (step.board ∙ same.board) bus bus' bus'' plain r (moves plain) (λ (b : Board). chain_off b (raised first.board plain (switch 0 r ∷ [])) higher) are told_first made
