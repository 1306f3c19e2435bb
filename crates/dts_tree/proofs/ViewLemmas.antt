-- A reader with numbers for nodes does what the machine with paths does.
use Rattle.std.proofs.Common.{◌≡◌, ℕ, ◌+◌, List, [], ◌∷◌, ◌++◌, Bool, true, false, cond, Option, Some, None, Result, Ok, Err, map, refl, sym, ap, ◌∙◌, subst, append_assoc}
use Rattle.std.proofs.lemmas.List.{append-nil}
use Rattle.std.proofs.lemmas.Grind.{flat_map-append}
use Rattle.std.specs.List.{flat_map, find}
use Rattle.dts_lex.specs.Class.{is_label}
use Rattle.dts_lex.specs.declared.token.Token.{Token}
use Rattle.name_map.specs.NameEntries.{same_name}
use Rattle.dts_tree.specs.declared.fault.TreeFault.{TreeFault}
use Rattle.dts_tree.specs.declared.store.Opened.{Opened}
use Rattle.dts_tree.specs.declared.fault.TreeFault.TheVariants.{TooDeep}
use Rattle.std.specs.Option.{option_map}
use Rattle.std.specs.Prelude.{nat_lt}
use Rattle.dts_tree.specs.declared.value.Cell.{Cell}
use Rattle.dts_tree.specs.declared.value.Cell.TheVariants as cell
use Rattle.dts_tree.specs.Value.{Part, Cells, Text, Bytes, Whole}
use Rattle.dts_tree.specs.Setting.{Label, Path, Root, Labelled, Child, Setting, OpensRoot, Opens, Adds, Sets}
use Rattle.dts_tree.specs.Lexeme.{Lexeme, Version, Semicolon, Colon, Equals, Comma, Slash, Open, Close, Less, Greater, Left, Right, Word, Number, String, Ref, lexeme_of, may_name_property, is_bytes, bytes_of}
use Rattle.dts_tree.specs.Content.{Content, nothing, node_of, child_of, number_at, or_root, with_setting, with_settings, unless_fault, opened, elsewhere, with_child, known, depth_of}
use Rattle.dts_tree.specs.Outline.{list_of, fault_of}
use Rattle.dts_tree.specs.Outcome.{IsOutcome, concluded, unless_unknown, is_unknown, labels_in, labels_in_part, labels_in_cell}
use Rattle.dts_tree.specs.Tree.{Node}
use Rattle.dts_tree.specs.Inside.State.{Reading, State, Move, move, is_whole, label_of, with_part, move_between, move_worded, move_named, move_valued, move_cells, move_bytes, move_parted, move_word, move_open, move_semicolon, move_start}
use Rattle.dts_tree.specs.Inside.State as state
use Rattle.dts_tree.specs.Inside.Pieces.{with_cell, with_byte, with_bytes}
use Rattle.dts_tree.specs.Inside.Run.{Run, run, then_run, behind}
use Rattle.dts_tree.specs.Inside.View.{View, Spot, symbol_of, bytes_said, take_at, take_token, take_all, view_start, ended, may_end, view_opened, open_child, take_start, take_semicolon, take_open, take_item, take_member, take_inside, take_slashed, take_named, take_worded, take_behind, take_valued, take_cells, take_bytes, take_parted}
use Rattle.dts_tree.specs.Inside.View as spot
use Rattle.dts_tree.proofs.ContentLemmas.{Leads, AllLead, grown, grown_all, grows_same, grows_child, place-kept, same_name-self}
use Rattle.dts_tree.proofs.OutlineLemmas.{outline_run}

-- ---- the view of a state

abbrev plain : Content → List Label → List ℕ → Spot → View
plain c refs bodies at = record { spot = at; bodies = bodies; waiting = []; parts = []; refs = refs; content = c }

abbrev bodies_of : Content → Reading → List ℕ
bodies_of c r = number_at c r.path ∷ map (number_at c) r.outer

abbrev valuing : Content → List Label → Reading → List (Part Label) → Spot → View
valuing c refs r parts at = record { spot = at; bodies = bodies_of c r; waiting = []; parts = parts; refs = refs ++ flat_map labels_in_part parts; content = c }

abbrev view : State → Content → List Label → View
view state.Start c refs = plain c refs [] spot.Start
view state.Versioned c refs = plain c refs [] spot.Versioned
view (state.Between bodies) c refs = plain c refs (map (number_at c) bodies) spot.Inside
view (state.Slashed slash) c refs = plain c refs [] (spot.Slashed slash)
view (state.Added name) c refs = plain c refs (number_at c (Labelled name) ∷ []) spot.Added
view (state.Closed bodies) c refs = plain c refs (map (number_at c) bodies) spot.Closed
view (state.Worded path outer word at) c refs = plain c refs (number_at c path ∷ map (number_at c) outer) (spot.Worded word at)
view (state.Behind path outer labels) c refs = record { spot = spot.Behind; bodies = number_at c path ∷ map (number_at c) outer; waiting = labels; parts = []; refs = refs; content = c }
view (state.Named path outer labels word at) c refs = record { spot = spot.Named word at; bodies = number_at c path ∷ map (number_at c) outer; waiting = labels; parts = []; refs = refs; content = c }
view (state.Valued r) c refs = valuing c refs r r.parts (spot.Valued r.name)
view (state.InCells r cells) c refs = valuing c refs r (r.parts ++ Cells cells ∷ []) (spot.InCells r.name)
view (state.InBytes r bytes) c refs = valuing c refs r (r.parts ++ Bytes bytes ∷ []) (spot.InBytes r.name)
view (state.Parted r) c refs = valuing c refs r r.parts (spot.Parted r.name)

-- the paths of a state lead to nodes
abbrev Stands : Content → State → Type 0
Stands c state.Start = Unit {0}
Stands c state.Versioned = Unit {0}
Stands c (state.Between bodies) = AllLead c bodies
Stands c (state.Slashed slash) = Unit {0}
Stands c (state.Added name) = Leads c (Labelled name)
Stands c (state.Closed bodies) = AllLead c bodies
Stands c (state.Worded path outer word at) = AllLead c (path ∷ outer)
Stands c (state.Behind path outer labels) = AllLead c (path ∷ outer)
Stands c (state.Named path outer labels word at) = AllLead c (path ∷ outer)
Stands c (state.Valued r) = AllLead c (r.path ∷ r.outer)
Stands c (state.InCells r cells) = AllLead c (r.path ∷ r.outer)
Stands c (state.InBytes r bytes) = AllLead c (r.path ∷ r.outer)
Stands c (state.Parted r) = AllLead c (r.path ∷ r.outer)

-- ---- parts that grow

with_cell-last : (parts : List (Part Label)) (cells : List (Cell Label)) (x : Cell Label) → with_cell (parts ++ Cells cells ∷ []) x ≡ parts ++ Cells (cells ++ x ∷ []) ∷ []
with_cell-last [] cells x = refl
with_cell-last (p ∷ []) cells x = refl
with_cell-last (p ∷ q ∷ ps) cells x = ap (λ ps. p ∷ ps) (with_cell-last (q ∷ ps) cells x)

with_byte-last : (parts : List (Part Label)) (bytes : List ℕ) (b : ℕ) → with_byte (parts ++ Bytes bytes ∷ []) b ≡ parts ++ Bytes (bytes ++ b ∷ []) ∷ []
with_byte-last [] bytes b = refl
with_byte-last (p ∷ []) bytes b = refl
with_byte-last (p ∷ q ∷ ps) bytes b = ap (λ ps. p ∷ ps) (with_byte-last (q ∷ ps) bytes b)

with_bytes-last : (parts : List (Part Label)) (bytes more : List ℕ) → with_bytes (parts ++ Bytes bytes ∷ []) more ≡ parts ++ Bytes (bytes ++ more) ∷ []
with_bytes-last parts bytes [] = ap (λ bs. parts ++ Bytes bs ∷ []) (sym (append-nil bytes))
with_bytes-last parts bytes (b ∷ more) =
    ap (λ ps. with_bytes ps more) (with_byte-last parts bytes b)
    ∙ with_bytes-last parts (bytes ++ b ∷ []) more
    ∙ ap (λ bs. parts ++ Bytes bs ∷ []) (append_assoc bytes (b ∷ []) more)

text_byte-last : (parts : List (Part Label)) (bytes : List ℕ) (b : ℕ) → with_byte (parts ++ Text bytes ∷ []) b ≡ parts ++ Text (bytes ++ b ∷ []) ∷ []
text_byte-last [] bytes b = refl
text_byte-last (p ∷ []) bytes b = refl
text_byte-last (p ∷ q ∷ ps) bytes b = ap (λ ps. p ∷ ps) (text_byte-last (q ∷ ps) bytes b)

text-last : (parts : List (Part Label)) (bytes more : List ℕ) → with_bytes (parts ++ Text bytes ∷ []) more ≡ parts ++ Text (bytes ++ more) ∷ []
text-last parts bytes [] = ap (λ bs. parts ++ Text bs ∷ []) (sym (append-nil bytes))
text-last parts bytes (b ∷ more) =
    ap (λ ps. with_bytes ps more) (text_byte-last parts bytes b)
    ∙ text-last parts (bytes ++ b ∷ []) more
    ∙ ap (λ bs. parts ++ Text bs ∷ []) (append_assoc bytes (b ∷ []) more)

-- the labels of parts and one more
refs-part : (refs : List Label) (parts : List (Part Label)) (p : Part Label) → refs ++ flat_map labels_in_part (parts ++ p ∷ []) ≡ (refs ++ flat_map labels_in_part parts) ++ labels_in_part p
refs-part refs parts p =
    ap (λ ls. refs ++ ls) (flat_map-append labels_in_part parts (p ∷ []) ∙ ap (λ ls. flat_map labels_in_part parts ++ ls) (append-nil (labels_in_part p)))
    ∙ sym (append_assoc refs (flat_map labels_in_part parts) (labels_in_part p))

refs-none : (refs : List Label) (parts : List (Part Label)) (p : Part Label) → labels_in_part p ≡ [] → refs ++ flat_map labels_in_part (parts ++ p ∷ []) ≡ refs ++ flat_map labels_in_part parts
refs-none refs parts p none = refs-part refs parts p ∙ ap (λ ls. (refs ++ flat_map labels_in_part parts) ++ ls) none ∙ append-nil (refs ++ flat_map labels_in_part parts)

refs-cell : (refs : List Label) (parts : List (Part Label)) (cells : List (Cell Label)) (x : Cell Label) → refs ++ flat_map labels_in_part (parts ++ Cells (cells ++ x ∷ []) ∷ []) ≡ (refs ++ flat_map labels_in_part (parts ++ Cells cells ∷ [])) ++ labels_in_cell x
refs-cell refs parts cells x =
    refs-part refs parts (Cells (cells ++ x ∷ []))
    ∙ ap (λ ls. (refs ++ flat_map labels_in_part parts) ++ ls) (flat_map-append labels_in_cell cells (x ∷ []) ∙ ap (λ ls. flat_map labels_in_cell cells ++ ls) (append-nil (labels_in_cell x)))
    ∙ sym (append_assoc (refs ++ flat_map labels_in_part parts) (flat_map labels_in_cell cells) (labels_in_cell x))
    ∙ ap (λ ls. ls ++ labels_in_cell x) (sym (refs-part refs parts (Cells cells)))

-- ---- one token

abbrev told_in : Content → Option Setting → Result Content TreeFault
told_in c None = Ok c
told_in c (Some setting) = with_setting c setting

abbrev refs_told : Option Setting → List Label
refs_told None = []
refs_told (Some setting) = labels_in setting

abbrev finish : Content → List Label → TreeFault → Option Move → Result View TreeFault
finish c refs wrong None = Err wrong
finish c refs wrong (Some m) = unless_fault (λ next. Ok (view m.0 next (refs ++ refs_told m.1))) (told_in c m.1)

-- what is made of a token, and that the next state stands
abbrev StandsNext : Content → Option Move → Type 0
StandsNext c None = Unit {0}
StandsNext c (Some m) = (next : Content) → told_in c m.1 ≡ Ok next → Stands next m.0

record Taken (c : Content) (refs : List Label) (wrong : TreeFault) (got : Result View TreeFault) (m : Option Move) : Type 0 where
  is : got ≡ finish c refs wrong m
  stands : StandsNext c m

abbrev fine : Content → Result Content TreeFault
fine c = Ok c

ok_same : (c d : Content) → fine c ≡ fine d → c ≡ d
ok_same c d e = cc

stays : (c : Content) (s : State) → Stands c s → (next : Content) → fine c ≡ fine next → Stands next s
stays c s h next e = subst (λ (d : Content). Stands d s) (ok_same c next e) h

module _ (c : Content) (refs : List Label) (at : ℕ) (wrong : TreeFault) where
  abbrev Takes : View → Spot → Lexeme → Option Move → Type 0
  Takes v s lexeme m = Taken c refs wrong (take_at v (bytes_said lexeme) at wrong s (symbol_of lexeme)) m

  -- the token can't come
  not_here : Taken c refs wrong (Err wrong) None
  not_here = record { is = refl; stands = tt }

  -- on to a state, where nothing is set
  on : (s : State) (got : View) → Stands c s → got ≡ view s c refs → Taken c refs wrong (Ok got) (Some (s, None))
  on s got h e = record { is = ap Ok (e ∙ ap (view s c) (sym (append-nil refs))); stands = stays c s h }

  takes_start : (lexeme : Lexeme) → Takes (view state.Start c refs) spot.Start lexeme (move_start lexeme)
  takes_start Version = on state.Versioned (view state.Versioned c refs) tt refl
  takes_start _ = not_here

  takes_versioned : (lexeme : Lexeme) → Takes (view state.Versioned c refs) spot.Versioned lexeme (move_semicolon (state.Between []) lexeme)
  takes_versioned Semicolon = on (state.Between []) (view (state.Between []) c refs) tt refl
  takes_versioned _ = not_here

  takes_closed : (bodies : List Path) (lexeme : Lexeme) → AllLead c bodies → Takes (view (state.Closed bodies) c refs) spot.Closed lexeme (move_semicolon (state.Between bodies) lexeme)
  takes_closed bodies Semicolon h = on (state.Between bodies) (view (state.Between bodies) c refs) h refl
  takes_closed bodies _ h = not_here

  takes_added : (name : List ℕ) (lexeme : Lexeme) → Leads c (Labelled name) → Takes (view (state.Added name) c refs) spot.Added lexeme (move_open (state.Between (Labelled name ∷ [])) None lexeme)
  takes_added name Open h = on (state.Between (Labelled name ∷ [])) (view (state.Between (Labelled name ∷ [])) c refs) (h, tt) refl
  takes_added name _ h = not_here

  takes_slashed : (slash : ℕ) (lexeme : Lexeme) → Takes (view (state.Slashed slash) c refs) (spot.Slashed slash) lexeme (move_open (state.Between (Root ∷ [])) (Some (OpensRoot slash)) lexeme)
  takes_slashed slash Open = record { is = ap (λ ls. Ok (plain (record c { root_at = _ }) ls (0 ∷ []) spot.Inside)) (sym (append-nil refs)); stands = λ next e. (tt, tt) }
  takes_slashed slash _ = not_here

  added : (name : List ℕ) (o : Option ℕ) → node_of c.labels name ≡ o → Taken c refs wrong (spot.view_added (view (state.Between []) c refs) at o) (Some (state.Added name, Some (Adds (label_of name at))))
  added name None is = record {
    is = ap (λ (o : Option ℕ). unless_fault (λ next. Ok (view (state.Added name) next (refs ++ []))) (known c at o)) (sym is);
    stands = λ next e. absurd (let no = ap (known c at) (sym is) ∙ e in cc);
  }
  added name (Some k) is = record {
    is = ap (λ (n : ℕ). Ok (plain c refs (n ∷ []) spot.Added)) (sym (ap or_root is))
        ∙ ap (λ ls. Ok (view (state.Added name) c ls)) (sym (append-nil refs))
        ∙ ap (λ (o : Option ℕ). unless_fault (λ next. Ok (view (state.Added name) next (refs ++ []))) (known c at o)) (sym is);
    stands = λ next e. subst (λ (d : Content). Leads d (Labelled name)) (ok_same c next (ap (known c at) (sym is) ∙ e)) (k, is);
  }

  takes_item : (lexeme : Lexeme) → Takes (view (state.Between []) c refs) spot.Inside lexeme (move_between [] lexeme at)
  takes_item Slash = on (state.Slashed at) (view (state.Slashed at) c refs) tt refl
  takes_item (Ref name) = added name (node_of c.labels name) refl
  takes_item _ = not_here

  takes_member : (path : Path) (outer : List Path) (lexeme : Lexeme) → AllLead c (path ∷ outer) → Takes (view (state.Between (path ∷ outer)) c refs) spot.Inside lexeme (move_between (path ∷ outer) lexeme at)
  takes_member path outer Close h = on (state.Closed outer) (view (state.Closed outer) c refs) h.1 refl
  takes_member path outer (Word word) h = on (state.Worded path outer word at) (view (state.Worded path outer word at) c refs) h refl
  takes_member path outer _ h = not_here

  takes_between : (bodies : List Path) (lexeme : Lexeme) → AllLead c bodies → Takes (view (state.Between bodies) c refs) spot.Inside lexeme (move_between bodies lexeme at)
  takes_between [] lexeme h = takes_item lexeme
  takes_between (path ∷ outer) lexeme h = takes_member path outer lexeme h

  takes_behind : (path : Path) (outer : List Path) (labels : List Label) (lexeme : Lexeme) → AllLead c (path ∷ outer) → Takes (view (state.Behind path outer labels) c refs) spot.Behind lexeme (move_word path outer labels lexeme at)
  takes_behind path outer labels (Word word) h = on (state.Named path outer labels word at) (view (state.Named path outer labels word at) c refs) h refl
  takes_behind path outer labels _ h = not_here

  -- ---- values

  value_on : (s : State) (r : Reading) (parts : List (Part Label)) (where_ : Spot) (kept : List Label) → Stands c s → view s c refs ≡ valuing c refs r parts where_ → kept ≡ refs ++ flat_map labels_in_part parts → Taken c refs wrong (Ok (record { spot = where_; bodies = bodies_of c r; waiting = []; parts = parts; refs = kept; content = c })) (Some (s, None))
  value_on s r parts where_ kept h same labels =
      on s (record { spot = where_; bodies = bodies_of c r; waiting = []; parts = parts; refs = kept; content = c }) h
      (ap (λ (ls : List Label). record { spot = where_; bodies = bodies_of c r; waiting = []; parts = parts; refs = ls; content = c }) labels ∙ sym same)

  module _ (r : Reading) (h : AllLead c (r.path ∷ r.outer)) where
    takes_valued : (lexeme : Lexeme) → Takes (view (state.Valued r) c refs) (spot.Valued r.name) lexeme (move_valued r lexeme at)
    takes_valued Less = value_on (state.InCells r []) r (r.parts ++ Cells [] ∷ []) (spot.InCells r.name) (refs ++ flat_map labels_in_part r.parts) h refl (sym (refs-none refs r.parts (Cells []) refl))
    takes_valued Left = value_on (state.InBytes r []) r (r.parts ++ Bytes [] ∷ []) (spot.InBytes r.name) (refs ++ flat_map labels_in_part r.parts) h refl (sym (refs-none refs r.parts (Bytes []) refl))
    takes_valued (String bytes) =
        subst (λ (ps : List (Part Label)). Taken c refs wrong (Ok (record { spot = spot.Parted r.name; bodies = bodies_of c r; waiting = []; parts = ps; refs = refs ++ flat_map labels_in_part r.parts; content = c })) (Some (state.Parted (with_part r (Text bytes)), None)))
        (sym (text-last r.parts [] bytes))
        (value_on (state.Parted (with_part r (Text bytes))) r (r.parts ++ Text bytes ∷ []) (spot.Parted r.name) (refs ++ flat_map labels_in_part r.parts) h refl (sym (refs-none refs r.parts (Text bytes) refl)))
    takes_valued (Ref name) = value_on (state.Parted (with_part r (Whole (label_of name at)))) r (r.parts ++ Whole (label_of name at) ∷ []) (spot.Parted r.name) ((refs ++ flat_map labels_in_part r.parts) ++ label_of name at ∷ []) h refl (sym (refs-part refs r.parts (Whole (label_of name at))))
    takes_valued _ = not_here

    cell_more : (cells : List (Cell Label)) (x : Cell Label) (kept : List Label) → kept ≡ (refs ++ flat_map labels_in_part (r.parts ++ Cells cells ∷ [])) ++ labels_in_cell x → Taken c refs wrong (Ok (record { spot = spot.InCells r.name; bodies = bodies_of c r; waiting = []; parts = with_cell (r.parts ++ Cells cells ∷ []) x; refs = kept; content = c })) (Some (state.InCells r (cells ++ x ∷ []), None))
    cell_more cells x kept labels =
        subst (λ (ps : List (Part Label)). Taken c refs wrong (Ok (record { spot = spot.InCells r.name; bodies = bodies_of c r; waiting = []; parts = ps; refs = kept; content = c })) (Some (state.InCells r (cells ++ x ∷ []), None)))
        (sym (with_cell-last r.parts cells x))
        (value_on (state.InCells r (cells ++ x ∷ [])) r (r.parts ++ Cells (cells ++ x ∷ []) ∷ []) (spot.InCells r.name) kept h refl (labels ∙ sym (refs-cell refs r.parts cells x)))

    takes_cells : (cells : List (Cell Label)) (lexeme : Lexeme) → Takes (view (state.InCells r cells) c refs) (spot.InCells r.name) lexeme (move_cells r cells lexeme at)
    takes_cells cells (Number n) = cell_more cells (cell.Num n) (refs ++ flat_map labels_in_part (r.parts ++ Cells cells ∷ [])) (sym (append-nil (refs ++ flat_map labels_in_part (r.parts ++ Cells cells ∷ []))))
    takes_cells cells (Ref name) = cell_more cells (cell.Node (label_of name at)) ((refs ++ flat_map labels_in_part (r.parts ++ Cells cells ∷ [])) ++ label_of name at ∷ []) refl
    takes_cells cells Greater = value_on (state.Parted (with_part r (Cells cells))) r (r.parts ++ Cells cells ∷ []) (spot.Parted r.name) (refs ++ flat_map labels_in_part (r.parts ++ Cells cells ∷ [])) h refl refl
    takes_cells cells _ = not_here

    choose : (b : Bool) (got : Result View TreeFault) (m : Move) → (b ≡ true → Taken c refs wrong got (Some m)) → Taken c refs wrong (cond b got (Err wrong)) (cond b (Some m) None)
    choose true got m holds = holds refl
    choose false got m holds = not_here

    bytes_more : (bytes more : List ℕ) → Taken c refs wrong (Ok (record { spot = spot.InBytes r.name; bodies = bodies_of c r; waiting = []; parts = with_bytes (r.parts ++ Bytes bytes ∷ []) more; refs = refs ++ flat_map labels_in_part (r.parts ++ Bytes bytes ∷ []); content = c })) (Some (state.InBytes r (bytes ++ more), None))
    bytes_more bytes more =
        let kept : List Label = refs ++ flat_map labels_in_part (r.parts ++ Bytes bytes ∷ []) in
        subst (λ (ps : List (Part Label)). Taken c refs wrong (Ok (record { spot = spot.InBytes r.name; bodies = bodies_of c r; waiting = []; parts = ps; refs = kept; content = c })) (Some (state.InBytes r (bytes ++ more), None)))
        (sym (with_bytes-last r.parts bytes more))
        (value_on (state.InBytes r (bytes ++ more)) r (r.parts ++ Bytes (bytes ++ more) ∷ []) (spot.InBytes r.name) kept h refl (refs-none refs r.parts (Bytes bytes) refl ∙ sym (refs-none refs r.parts (Bytes (bytes ++ more)) refl)))

    takes_bytes : (bytes : List ℕ) (lexeme : Lexeme) → Takes (view (state.InBytes r bytes) c refs) (spot.InBytes r.name) lexeme (move_bytes r bytes lexeme)
    takes_bytes bytes (Word word) = choose (is_bytes word) (Ok (record (view (state.InBytes r bytes) c refs) { spot = spot.InBytes r.name; parts = with_bytes (r.parts ++ Bytes bytes ∷ []) (bytes_of word) })) (state.InBytes r (bytes ++ bytes_of word), None) (λ is. bytes_more bytes (bytes_of word))
    takes_bytes bytes Right = value_on (state.Parted (with_part r (Bytes bytes))) r (r.parts ++ Bytes bytes ∷ []) (spot.Parted r.name) (refs ++ flat_map labels_in_part (r.parts ++ Bytes bytes ∷ [])) h refl refl
    takes_bytes bytes _ = not_here

  -- ---- a property is set

  set_told : (path : Path) (outer : List Path) (name : List ℕ) (parts : List (Part Label)) (kept : List Label) → AllLead c (path ∷ outer) → kept ≡ refs ++ flat_map labels_in_part parts → Taken c refs wrong (Ok (record { spot = spot.Inside; bodies = number_at c path ∷ map (number_at c) outer; waiting = []; parts = []; refs = kept; content = spot.set_in c (number_at c path) name parts })) (Some (state.Between (path ∷ outer), Some (Sets path name parts)))
  set_told path outer name parts kept h labels =
      let d : Content = spot.set_in c (number_at c path) name parts in
      let g = grown_all c d (grows_same c d refl refl) (path ∷ outer) h in
      record {
        is = ap (λ (ks : List ℕ). Ok (plain d kept ks spot.Inside)) (sym g.0) ∙ ap (λ (ls : List Label). Ok (plain d ls (map (number_at d) (path ∷ outer)) spot.Inside)) labels;
        stands = λ next e. subst (λ (n : Content). AllLead n (path ∷ outer)) (ok_same d next e) g.1;
      }

  takes_parted : (r : Reading) (lexeme : Lexeme) → AllLead c (r.path ∷ r.outer) → Takes (view (state.Parted r) c refs) (spot.Parted r.name) lexeme (move_parted r lexeme)
  takes_parted r Semicolon h = set_told r.path r.outer r.name r.parts (refs ++ flat_map labels_in_part r.parts) h refl
  takes_parted r Comma h = value_on (state.Valued r) r r.parts (spot.Valued r.name) (refs ++ flat_map labels_in_part r.parts) h refl refl
  takes_parted r _ h = not_here

  -- ---- a node is opened

  if_taken : (b : Bool) (got : Result View TreeFault) (m : Move) → Taken c refs wrong got (Some m) → Taken c refs wrong (cond b got (Err wrong)) (cond b (Some m) None)
  if_taken true got m holds = holds
  if_taken false got m holds = not_here

  module _ (path : Path) (outer : List Path) (labels : List Label) (word : List ℕ) (word_at : ℕ) (h : AllLead c (path ∷ outer)) where
    -- the content behind the brace
    abbrev behind_brace : Content
    behind_brace = with_child c (number_at c path) word word_at labels

    child_there : (k : ℕ) × (child_of behind_brace.children (number_at c path) word ≡ Some k)
    child_there =
        let v : Opened = record { at = word_at; depth = depth_of c.children (number_at c path) + 1 } in
        let r = place-kept same_name same_name-self c.children (number_at c path, word) v in
        (r.0 + 1, ap (λ (o : Option ℕ). option_map (λ k. k + 1) o) r.1)

    child_led : AllLead behind_brace (Child path word ∷ path ∷ outer)
    child_led =
        let g = grown_all c behind_brace (grows_child c (number_at c path) word word_at labels) (path ∷ outer) h in
        let number : number_at behind_brace path ≡ number_at c path = (grown c behind_brace (grows_child c (number_at c path) word word_at labels) path h.0).0 in
        ((g.1.0, (child_there.0, ap (λ n. child_of behind_brace.children n word) number ∙ child_there.1)), g.1)

    child_bodies : map (number_at behind_brace) (Child path word ∷ path ∷ outer) ≡ or_root (child_of behind_brace.children (number_at c path) word) ∷ number_at c path ∷ map (number_at c) outer
    child_bodies =
        let g = grown_all c behind_brace (grows_child c (number_at c path) word word_at labels) (path ∷ outer) h in
        let number : number_at behind_brace path ≡ number_at c path = (grown c behind_brace (grows_child c (number_at c path) word word_at labels) path h.0).0 in
        ap (λ n. or_root (child_of behind_brace.children n word) ∷ map (number_at behind_brace) (path ∷ outer)) number
        ∙ ap (λ ks. or_root (child_of behind_brace.children (number_at c path) word) ∷ ks) g.0

    abbrev waiting_view : Spot → View
    waiting_view s = record { spot = s; bodies = number_at c path ∷ map (number_at c) outer; waiting = labels; parts = []; refs = refs; content = c }

    abbrev Brace : Result Content TreeFault → Type 0
    Brace got =
        (unless_fault (λ next. Ok (view_opened (waiting_view (spot.Named word word_at)) word next)) got ≡ unless_fault (λ next. Ok (view (state.Between (Child path word ∷ path ∷ outer)) next (refs ++ []))) got)
        × ((next : Content) → got ≡ Ok next → Stands next (state.Between (Child path word ∷ path ∷ outer)))

    brace_opened : (place : Option ℕ) → Brace (opened c (number_at c path) word word_at labels place)
    brace_opened (Some place) = (refl, λ next e. absurd (cc))
    brace_opened None =
        elim (nat_lt (depth_of c.children (number_at c path)) 32) as (λ (b : Bool). Brace (cond b (Ok behind_brace) (Err (TooDeep word_at)))) [
          | true ↦ (
            ap (λ (ks : List ℕ). Ok (plain behind_brace refs ks spot.Inside)) (sym child_bodies) ∙ ap (λ (ls : List Label). Ok (view (state.Between (Child path word ∷ path ∷ outer)) behind_brace ls)) (sym (append-nil refs)),
            λ next e. subst (λ (n : Content). AllLead n (Child path word ∷ path ∷ outer)) (ok_same behind_brace next e) child_led,
          )
          | false ↦ (refl, λ next e. absurd (cc))
        ]

    takes_brace : Taken c refs wrong (open_child (waiting_view (spot.Named word word_at)) word word_at) (Some (state.Between (Child path word ∷ path ∷ outer), Some (Opens path word word_at labels)))
    takes_brace =
        let b = brace_opened (elsewhere c.labels (child_of c.children (number_at c path) word) labels) in
        record { is = b.0; stands = b.1 }

    abbrev waiting_view_more : View
    waiting_view_more = record { spot = spot.Behind; bodies = number_at c path ∷ map (number_at c) outer; waiting = labels ++ label_of word word_at ∷ []; parts = []; refs = refs; content = c }

    takes_named : (lexeme : Lexeme) → Takes (waiting_view (spot.Named word word_at)) (spot.Named word word_at) lexeme (move_named path outer labels word word_at lexeme)
    takes_named Colon = if_taken (is_label word) (Ok (waiting_view_more)) (state.Behind path outer (labels ++ label_of word word_at ∷ []), None) (on (state.Behind path outer (labels ++ label_of word word_at ∷ [])) waiting_view_more h refl)
    takes_named Open = takes_brace
    takes_named _ = not_here

  takes_worded : (path : Path) (outer : List Path) (word : List ℕ) (word_at : ℕ) (lexeme : Lexeme) → AllLead c (path ∷ outer) → Takes (view (state.Worded path outer word word_at) c refs) (spot.Worded word word_at) lexeme (move_worded path outer word word_at lexeme)
  takes_worded path outer word word_at Semicolon h =
      if_taken (may_name_property word) (Ok (record { spot = spot.Inside; bodies = number_at c path ∷ map (number_at c) outer; waiting = []; parts = []; refs = refs; content = spot.set_in c (number_at c path) word [] })) (state.Between (path ∷ outer), Some (Sets path word []))
      (set_told path outer word [] refs h (sym (append-nil refs)))
  takes_worded path outer word word_at Equals h =
      let r : Reading = record { path = path; outer = outer; name = word; parts = [] } in
      if_taken (may_name_property word) (Ok (plain c refs (number_at c path ∷ map (number_at c) outer) (spot.Valued word))) (state.Valued r, None)
      (value_on (state.Valued r) r [] (spot.Valued word) refs h refl (sym (append-nil refs)))
  takes_worded path outer word word_at Colon h = takes_named path outer [] word word_at h Colon
  takes_worded path outer word word_at Open h = takes_named path outer [] word word_at h Open
  takes_worded path outer word word_at _ h = not_here

  takes_state : (s : State) (lexeme : Lexeme) → Stands c s → Takes (view s c refs) (view s c refs).spot lexeme (move s lexeme at)
  unfolding move
  takes_state state.Start lexeme h = takes_start lexeme
  takes_state state.Versioned lexeme h = takes_versioned lexeme
  takes_state (state.Between bodies) lexeme h = takes_between bodies lexeme h
  takes_state (state.Slashed slash) lexeme h = takes_slashed slash lexeme
  takes_state (state.Added name) lexeme h = takes_added name lexeme h
  takes_state (state.Closed bodies) lexeme h = takes_closed bodies lexeme h
  takes_state (state.Worded path outer word word_at) lexeme h = takes_worded path outer word word_at lexeme h
  takes_state (state.Behind path outer labels) lexeme h = takes_behind path outer labels lexeme h
  takes_state (state.Named path outer labels word word_at) lexeme h = takes_named path outer labels word word_at h lexeme
  takes_state (state.Valued r) lexeme h = takes_valued r h lexeme
  takes_state (state.InCells r cells) lexeme h = takes_cells r h cells lexeme
  takes_state (state.InBytes r bytes) lexeme h = takes_bytes r h bytes lexeme
  takes_state (state.Parted r) lexeme h = takes_parted r lexeme h

-- ---- the whole text

-- the labels of values that were read come before those of settings that follow
abbrev concluded_behind : List Label → List Setting → Option TreeFault → Content → Result (List Node) TreeFault
concluded_behind refs settings (Some fault) c = Err fault
concluded_behind refs settings None c = unless_unknown c (find (is_unknown c) (refs ++ flat_map labels_in settings))

abbrev outcome_behind : Content → List Label → Run → Result (List Node) TreeFault
outcome_behind c refs r = unless_fault (concluded_behind refs r.settings r.fault) (with_settings c r.settings)

refs-behind : (refs : List Label) (setting : Option Setting) (others : List Setting) → (refs ++ refs_told setting) ++ flat_map labels_in others ≡ refs ++ flat_map labels_in (list_of setting ++ others)
refs-behind refs None others = ap (λ ls. ls ++ flat_map labels_in others) (append-nil refs)
refs-behind refs (Some setting) others = append_assoc refs (labels_in setting) (flat_map labels_in others)

concluded-same : (refs more : List Label) (a b : List Setting) (fault : Option TreeFault) (c : Content) → more ++ flat_map labels_in b ≡ refs ++ flat_map labels_in a → concluded_behind more b fault c ≡ concluded_behind refs a fault c
concluded-same refs more a b None c same = ap (λ ls. unless_unknown c (find (is_unknown c) ls)) same
concluded-same refs more a b (Some fault) c same = refl

-- one setting more
outcome-told : (c : Content) (refs : List Label) (setting : Option Setting) (r : Run) (next : Content) → told_in c setting ≡ Ok next → outcome_behind next (refs ++ refs_told setting) r ≡ outcome_behind c refs (behind setting r)
unfolding with_settings
outcome-told c refs None r next is =
    ap (λ (d : Content). outcome_behind d (refs ++ []) r) (sym (ok_same c next is)) ∙ ap (λ ls. outcome_behind c ls r) (append-nil refs)
outcome-told c refs (Some setting) r next is =
    concluded-all (with_settings next r.settings)
    ∙ ap (λ (o : Result Content TreeFault). unless_fault (concluded_behind refs (setting ∷ r.settings) r.fault) (unless_fault (λ d. with_settings d r.settings) o)) (sym is) where
      concluded-all : (o : Result Content TreeFault) → unless_fault (concluded_behind (refs ++ labels_in setting) r.settings r.fault) o ≡ unless_fault (concluded_behind refs (setting ∷ r.settings) r.fault) o
      concluded-all (Ok d) = concluded-same refs (refs ++ labels_in setting) (setting ∷ r.settings) r.settings r.fault d (refs-behind refs (Some setting) r.settings)
      concluded-all (Err fault) = refl

-- a setting that is wrong
outcome-wrong : (c : Content) (refs : List Label) (setting : Option Setting) (r : Run) (fault : TreeFault) → told_in c setting ≡ Err fault → outcome_behind c refs (behind setting r) ≡ Err fault
unfolding with_settings
outcome-wrong c refs None r fault is = absurd (cc)
outcome-wrong c refs (Some setting) r fault is =
    ap (λ (o : Result Content TreeFault). unless_fault (concluded_behind refs (setting ∷ r.settings) r.fault) (unless_fault (λ d. with_settings d r.settings) o)) is

module _ (text : List ℕ) where
  inside_ends : (bodies : List Path) (c : Content) (refs : List Label) → ended text (view (state.Between bodies) c refs) ≡ outcome_behind c refs (run text (state.Between bodies) [])
  unfolding run with_settings
  inside_ends [] c refs = ap (λ ls. unless_unknown c (find (is_unknown c) ls)) (sym (append-nil refs))
  inside_ends (path ∷ outer) c refs = refl

  view_ends : (s : State) (c : Content) (refs : List Label) → ended text (view s c refs) ≡ outcome_behind c refs (run text s [])
  unfolding run with_settings
  view_ends (state.Between bodies) c refs = inside_ends bodies c refs
  view_ends _ c refs = refl

  -- behind one token
  view_token : (s : State) (c : Content) (refs : List Label) (t : Token) → Stands c s → Taken c refs (fault_of text t) (take_token text (view s c refs) t) (move s (lexeme_of text t) t.start)
  view_token s c refs t h = takes_state c refs t.start (fault_of text t) s (lexeme_of text t) h

  -- what is made of the tokens behind this one
  abbrev Others : List Token → Type 0
  Others ts = (s : State) (c : Content) (refs : List Label) → Stands c s → unless_fault (ended text) (take_all text (view s c refs) ts) ≡ outcome_behind c refs (run text s ts)

  view_told : (c : Content) (refs : List Label) (ts : List Token) → Others ts → (m : Move) (o : Result Content TreeFault) → told_in c m.1 ≡ o → ((next : Content) → o ≡ Ok next → Stands next m.0) → unless_fault (ended text) (unless_fault (λ v. take_all text v ts) (unless_fault (λ next. Ok (view m.0 next (refs ++ refs_told m.1))) o)) ≡ outcome_behind c refs (behind m.1 (run text m.0 ts))
  view_told c refs ts others m (Ok next) is stands = others m.0 next (refs ++ refs_told m.1) (stands next refl) ∙ outcome-told c refs m.1 (run text m.0 ts) next is
  view_told c refs ts others m (Err fault) is stands = sym (outcome-wrong c refs m.1 (run text m.0 ts) fault is)

  view_next : (c : Content) (refs : List Label) (t : Token) (ts : List Token) → Others ts → (o : Option Move) → StandsNext c o → unless_fault (ended text) (unless_fault (λ v. take_all text v ts) (finish c refs (fault_of text t) o)) ≡ outcome_behind c refs (then_run text t (λ next. run text next ts) o)
  unfolding with_settings
  view_next c refs t ts others None stands = refl
  view_next c refs t ts others (Some m) stands = view_told c refs ts others m (told_in c m.1) refl stands

  view_all : (ts : List Token) (s : State) (c : Content) (refs : List Label) → Stands c s → unless_fault (ended text) (take_all text (view s c refs) ts) ≡ outcome_behind c refs (run text s ts)
  unfolding run take_all
  view_all [] s c refs h = view_ends s c refs
  view_all (t ∷ ts) s c refs h =
      let one = view_token s c refs t h in
      ap (λ (o : Result View TreeFault). unless_fault (ended text) (unless_fault (λ v. take_all text v ts) o)) one.is
      ∙ view_next c refs t ts (view_all ts) (move s (lexeme_of text t) t.start) one.stands

  outcome_same : (settings : List Setting) (fault : Option TreeFault) (o : Result Content TreeFault) → unless_fault (concluded settings fault) o ≡ unless_fault (concluded_behind [] settings fault) o
  outcome_same settings None (Ok c) = refl
  outcome_same settings (Some f) (Ok c) = refl
  outcome_same settings fault (Err f) = refl

  -- what a reader ends with is the text's outcome
  pub view_outcome : (tokens : List Token) → IsOutcome text tokens (unless_fault (ended text) (take_all text view_start tokens))
  unfolding view_start
  view_outcome tokens =
      let r = run text state.Start tokens in
      (r.settings, r.fault, outline_run text tokens, outcome_same r.settings r.fault (with_settings nothing r.settings) ∙ sym (view_all tokens state.Start nothing [] tt))
