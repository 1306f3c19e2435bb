-- What a token leads to in each state of a text.
use Rattle.std.proofs.Common.{◌≡◌, ℕ, List, [], ◌∷◌, ◌++◌, Bool, true, false, cond, Option, Some, None, refl, sym, ap, ◌∙◌, subst, inl, inr, append_assoc}
use Rattle.std.specs.Prelude.{◌⊎◌, ◌↔◌}
use Rattle.std.proofs.lemmas.List.{append-nil}
use Rattle.dts_lex.specs.Class.{is_label}
use Rattle.dts_tree.specs.declared.value.Cell.{Cell}
use Rattle.dts_tree.specs.declared.value.Cell.TheVariants as cell
use Rattle.dts_tree.specs.Value.{Part}
use Rattle.dts_tree.specs.Value as value
use Rattle.dts_tree.specs.Setting.{Label, Path, Root, Labelled, Child, Setting, OpensRoot, Adds, Sets}
use Rattle.dts_tree.specs.Lexeme.{Lexeme, Version, Semicolon, Colon, Equals, Comma, Slash, Open, Close, Less, Greater, Left, Right, Word, Number, String, Ref, may_name_property, is_bytes, bytes_of}
use Rattle.dts_tree.specs.Grammar.{Told, Is, IsCells, IsBytes, IsPart, IsValue, IsOpening, AreMembers, AreItems, IsFile}
use Rattle.dts_tree.specs.Grammar as grammar
use Rattle.dts_tree.specs.Inside.State.{Reading, State, Start, Versioned, Between, Slashed, Added, Closed, Worded, Behind, Named, Valued, InCells, InBytes, Parted, Move, label_of, with_part, move, move_named, move_worded, move_valued, move_cells, move_bytes, move_parted, move_between, move_start, move_semicolon, move_open, move_word}
use Rattle.dts_tree.specs.Inside.Rest.{Then, Inside, ValueThen, PartThen, CellsThen, BytesThen, OpeningThen, NamedThen, WordedThen, Rest, Follows}

-- a token of another lexeme
abbrev Other : Lexeme → Lexeme → Type 0
Other a b = a ≡ b → ⊥

-- ---- one sign

file_forth : (t : Told) (ts : List Told) → IsFile (t ∷ ts) → Is Version None t × Then (Is Semicolon None) AreItems ts
file_forth _ _ (grammar.file t u xs ht hu rest) = (ht, (hu, rest))

file_back : (t : Told) (ts : List Told) → t.lexeme ≡ Version → (t.sets ≡ None) × Then (Is Semicolon None) AreItems ts → IsFile (t ∷ ts)
file_back t [] is h = absurd h.1
file_back t (u ∷ ts) is h = grammar.file t u ts (is, h.0) h.1.0 h.1.1

follows_start : (t : Told) (ts : List Told) (lexeme : Lexeme) → t.lexeme ≡ lexeme → Follows IsFile t ts (move_start lexeme)
follows_start t ts Version is = (λ h. ((file_forth t ts h).0.1, (file_forth t ts h).1), file_back t ts is)
follows_start t ts _ is = λ h. (let e = sym is ∙ (file_forth t ts h).0.0 in cc)

follows_semicolon : (Others : List Told → Type 0) (next : State) (same : (ts : List Told) → Others ts ↔ Rest next ts) (t : Told) (ts : List Told) (lexeme : Lexeme) → t.lexeme ≡ lexeme → Follows (Then (Is Semicolon None) Others) t ts (move_semicolon next lexeme)
follows_semicolon Others next same t ts Semicolon is = (λ h. (h.0.1, (same ts).0 h.1), λ h. ((is, h.0), (same ts).1 h.1))
follows_semicolon Others next same t ts _ is = λ h. (let e = sym is ∙ h.0.0 in cc)

follows_open : (next : State) (sets : Option Setting) (t : Told) (ts : List Told) (lexeme : Lexeme) → t.lexeme ≡ lexeme → Follows (Then (Is Open sets) (Rest next)) t ts (move_open next sets lexeme)
follows_open next sets t ts Open is = (λ h. (h.0.1, h.1), λ h. ((is, h.0), h.1))
follows_open next sets t ts _ is = λ h. (let e = sym is ∙ h.0.0 in cc)

-- ---- the items

record Rooted (t : Told) (ts : List Told) : Type 0 where
  is : t.lexeme ≡ Slash
  forth : (t.sets ≡ None) × Then (Is Open (Some (OpensRoot t.at))) (Inside (Root ∷ [])) ts

record Adding (t : Told) (ts : List Told) : Type 0 where
  name : List ℕ
  is : t.lexeme ≡ Ref name
  forth : (t.sets ≡ Some (Adds (label_of name t.at))) × Then (Is Open None) (Inside (Labelled name ∷ [])) ts

items_forth : (t : Told) (ts : List Told) → AreItems (t ∷ ts) → Rooted t ts ⊎ Adding t ts
items_forth _ _ (grammar.root t u v xs ys ht hu m hv rest) = inl (record { is = ht.0; forth = (ht.1, (hu, (v, ys, m, hv, rest))) })
items_forth _ _ (grammar.add name t u v xs ys ht hu m hv rest) = inr (record { name = name; is = ht.0; forth = (ht.1, (hu, (v, ys, m, hv, rest))) })

root_back : (t : Told) (ts : List Told) → t.lexeme ≡ Slash → (t.sets ≡ None) × Then (Is Open (Some (OpensRoot t.at))) (Inside (Root ∷ [])) ts → AreItems (t ∷ ts)
root_back t [] is h = absurd h.1
root_back t (u ∷ ts) is h = grammar.root t u h.1.1.0 ts h.1.1.1 (is, h.0) h.1.0 h.1.1.2 h.1.1.3 h.1.1.4

add_back : (name : List ℕ) (t : Told) (ts : List Told) → t.lexeme ≡ Ref name → (t.sets ≡ Some (Adds (label_of name t.at))) × Then (Is Open None) (Inside (Labelled name ∷ [])) ts → AreItems (t ∷ ts)
add_back name t [] is h = absurd h.1
add_back name t (u ∷ ts) is h = grammar.add name t u h.1.1.0 ts h.1.1.1 (is, h.0) h.1.0 h.1.1.2 h.1.1.3 h.1.1.4

items_other : (t : Told) (ts : List Told) (lexeme : Lexeme) → t.lexeme ≡ lexeme → Other lexeme Slash → ((name : List ℕ) → Other lexeme (Ref name)) → AreItems (t ∷ ts) → ⊥
items_other t ts lexeme is slash ref h =
    elim (items_forth t ts h) [ inl root ↦ slash (sym is ∙ root.is) | inr add ↦ ref add.name (sym is ∙ add.is) ]

follows_items : (t : Told) (ts : List Told) (lexeme : Lexeme) → t.lexeme ≡ lexeme → Follows AreItems t ts (move_between [] lexeme t.at)
follows_items t ts Slash is =
    (λ h. elim (items_forth t ts h) [ inl root ↦ root.forth | inr add ↦ absurd (let e : Slash ≡ Ref add.name = sym is ∙ add.is in cc) ], root_back t ts is)
follows_items t ts (Ref name) is = (
  λ h. elim (items_forth t ts h) [
    | inl root ↦ absurd (let e : Ref name ≡ Slash = sym is ∙ root.is in cc)
    | inr add ↦ (let e : Ref add.name ≡ Ref name = sym add.is ∙ is in
        let n : add.name ≡ name = cc in
        subst (λ (m : List ℕ). (t.sets ≡ Some (Adds (label_of m t.at))) × Then (Is Open None) (Inside (Labelled m ∷ [])) ts) n add.forth)
  ],
  add_back name t ts is,
)
follows_items t ts _ is = items_other t ts _ is (λ e. (cc)) (λ name e. (cc))

-- ---- the heads of nodes

record Heads (path : Path) (outer : List Path) (labels : List Label) (t : Told) (ts : List Told) : Type 0 where
  word : List ℕ
  is : t.lexeme ≡ Word word
  forth : (t.sets ≡ None) × NamedThen path outer labels word t.at ts

opening_forth : (path : Path) (outer : List Path) (labels : List Label) (name : List ℕ) (t : Told) (ts rest : List Told) → IsOpening path labels name (t ∷ ts) rest → Inside (Child path name ∷ path ∷ outer) rest → Heads path outer labels t ts
opening_forth path outer _ name _ _ rest (grammar.label labels word _ t u xs _ ht form hu more) h = record { word = word; is = ht.0; forth = (ht.1, inl (form, hu, (name, rest, more, h))) }
opening_forth path outer _ _ _ _ _ (grammar.name labels word t u rest ht hu) h = record { word = word; is = ht.0; forth = (ht.1, inr (hu, h)) }

opening_back : (path : Path) (outer : List Path) (labels : List Label) (word : List ℕ) (t : Told) (ts : List Told) → t.lexeme ≡ Word word → (t.sets ≡ None) × NamedThen path outer labels word t.at ts → OpeningThen path outer labels (t ∷ ts)
opening_back path outer labels word t [] is h = absurd h.1
opening_back path outer labels word t (u ∷ ts) is h =
    elim h.1 [
      | inl l ↦ (l.2.0, l.2.1, grammar.label labels word l.2.0 t u ts l.2.1 (is, h.0) l.0 l.1 l.2.2, l.2.3)
      | inr n ↦ (word, ts, grammar.name labels word t u ts (is, h.0) n.0, n.1)
    ]

same_head : (path : Path) (outer : List Path) (labels : List Label) (word : List ℕ) (t : Told) (ts : List Told) → t.lexeme ≡ Word word → Heads path outer labels t ts → (t.sets ≡ None) × NamedThen path outer labels word t.at ts
same_head path outer labels word t ts is h =
    let e : Word h.word ≡ Word word = sym h.is ∙ is in
    let n : h.word ≡ word = cc in
    subst (λ (w : List ℕ). (t.sets ≡ None) × NamedThen path outer labels w t.at ts) n h.forth

follows_word : (path : Path) (outer : List Path) (labels : List Label) (t : Told) (ts : List Told) (lexeme : Lexeme) → t.lexeme ≡ lexeme → Follows (OpeningThen path outer labels) t ts (move_word path outer labels lexeme t.at)
follows_word path outer labels t ts (Word word) is =
    (λ h. same_head path outer labels word t ts is (opening_forth path outer labels h.0 t ts h.1 h.2 h.3), opening_back path outer labels word t ts is)
follows_word path outer labels t ts _ is = λ h. (let head = opening_forth path outer labels h.0 t ts h.1 h.2 h.3 in let e = sym is ∙ head.is in cc)

-- a choice of what may come by the form of a word
follows_if : (b : Bool) (Others : List Told → Type 0) (t : Told) (ts : List Told) (m : Move) → (b ≡ true → Follows Others t ts (Some m)) → (b ≡ false → Follows Others t ts None) → Follows Others t ts (cond b (Some m) None)
follows_if true Others t ts m holds fails = holds refl
follows_if false Others t ts m holds fails = fails refl

follows_named : (path : Path) (outer : List Path) (labels : List Label) (word : List ℕ) (at : ℕ) (t : Told) (ts : List Told) (lexeme : Lexeme) → t.lexeme ≡ lexeme → Follows (NamedThen path outer labels word at) t ts (move_named path outer labels word at lexeme)
follows_named path outer labels word at t ts Colon is =
    follows_if (is_label word) (NamedThen path outer labels word at) t ts (Behind path outer (labels ++ label_of word at ∷ []), None)
    (λ form. (λ h. elim h [ inl l ↦ (l.1.1, l.2) | inr n ↦ absurd (let e : Colon ≡ Open = sym is ∙ n.0.0 in cc) ], λ h. inl (form, (is, h.0), h.1)))
    (λ form h. elim h [ inl l ↦ (let e : true ≡ false = sym l.0 ∙ form in cc) | inr n ↦ (let e : Colon ≡ Open = sym is ∙ n.0.0 in cc) ])
follows_named path outer labels word at t ts Open is =
    (λ h. elim h [ inl l ↦ absurd (let e : Open ≡ Colon = sym is ∙ l.1.0 in cc) | inr n ↦ (n.0.1, n.1) ], λ h. inr ((is, h.0), h.1))
follows_named path outer labels word at t ts _ is =
    λ h. elim h [ inl l ↦ (let e = sym is ∙ l.1.0 in cc) | inr n ↦ (let e = sym is ∙ n.0.0 in cc) ]

-- ---- the members of a body

follows_worded_named : (path : Path) (outer : List Path) (word : List ℕ) (at : ℕ) (t : Told) (ts : List Told) (m : Option Move) → Other t.lexeme Semicolon → Other t.lexeme Equals → Follows (NamedThen path outer [] word at) t ts m → Follows (WordedThen path outer word at) t ts m
follows_worded_named path outer word at t ts None flag value h = λ w. elim w [ inl a ↦ flag a.1.0 | inr b ↦ elim b [ inl v ↦ value v.1.0 | inr n ↦ h n ] ]
follows_worded_named path outer word at t ts (Some m) flag value h =
    (λ w. elim w [ inl a ↦ absurd (flag a.1.0) | inr b ↦ elim b [ inl v ↦ absurd (value v.1.0) | inr n ↦ h.0 n ] ], λ told. inr (inr (h.1 told)))

follows_worded : (path : Path) (outer : List Path) (word : List ℕ) (at : ℕ) (t : Told) (ts : List Told) (lexeme : Lexeme) → t.lexeme ≡ lexeme → Follows (WordedThen path outer word at) t ts (move_worded path outer word at lexeme)
follows_worded path outer word at t ts Semicolon is =
    follows_if (may_name_property word) (WordedThen path outer word at) t ts (Between (path ∷ outer), Some (Sets path word []))
    (λ form. (
      λ h. elim h [
        | inl a ↦ (a.1.1, a.2)
        | inr b ↦ elim b [
          | inl v ↦ absurd (let e : Semicolon ≡ Equals = sym is ∙ v.1.0 in cc)
          | inr n ↦ elim n [ inl l ↦ absurd (let e : Semicolon ≡ Colon = sym is ∙ l.1.0 in cc) | inr o ↦ absurd (let e : Semicolon ≡ Open = sym is ∙ o.0.0 in cc) ]
        ]
      ],
      λ h. inl (form, (is, h.0), h.1),
    ))
    (λ form h. elim h [
      | inl a ↦ (let e : true ≡ false = sym a.0 ∙ form in cc)
      | inr b ↦ elim b [
        | inl v ↦ (let e : Semicolon ≡ Equals = sym is ∙ v.1.0 in cc)
        | inr n ↦ elim n [ inl l ↦ (let e : Semicolon ≡ Colon = sym is ∙ l.1.0 in cc) | inr o ↦ (let e : Semicolon ≡ Open = sym is ∙ o.0.0 in cc) ]
      ]
    ])
follows_worded path outer word at t ts Equals is =
    follows_if (may_name_property word) (WordedThen path outer word at) t ts (Valued (record { path = path; outer = outer; name = word; parts = [] }), None)
    (λ form. (
      λ h. elim h [
        | inl a ↦ absurd (let e : Equals ≡ Semicolon = sym is ∙ a.1.0 in cc)
        | inr b ↦ elim b [
          | inl v ↦ (v.1.1, v.2)
          | inr n ↦ elim n [ inl l ↦ absurd (let e : Equals ≡ Colon = sym is ∙ l.1.0 in cc) | inr o ↦ absurd (let e : Equals ≡ Open = sym is ∙ o.0.0 in cc) ]
        ]
      ],
      λ h. inr (inl (form, (is, h.0), h.1)),
    ))
    (λ form h. elim h [
      | inl a ↦ (let e : Equals ≡ Semicolon = sym is ∙ a.1.0 in cc)
      | inr b ↦ elim b [
        | inl v ↦ (let e : true ≡ false = sym v.0 ∙ form in cc)
        | inr n ↦ elim n [ inl l ↦ (let e : Equals ≡ Colon = sym is ∙ l.1.0 in cc) | inr o ↦ (let e : Equals ≡ Open = sym is ∙ o.0.0 in cc) ]
      ]
    ])
follows_worded path outer word at t ts Colon is = follows_worded_named path outer word at t ts (move_named path outer [] word at Colon) (λ e. (let no : Colon ≡ Semicolon = sym is ∙ e in cc)) (λ e. (let no : Colon ≡ Equals = sym is ∙ e in cc)) (follows_named path outer [] word at t ts Colon is)
follows_worded path outer word at t ts Open is = follows_worded_named path outer word at t ts (move_named path outer [] word at Open) (λ e. (let no : Open ≡ Semicolon = sym is ∙ e in cc)) (λ e. (let no : Open ≡ Equals = sym is ∙ e in cc)) (follows_named path outer [] word at t ts Open is)
follows_worded path outer word at t ts _ is =
    λ h. elim h [
      | inl a ↦ (let e = sym is ∙ a.1.0 in cc)
      | inr b ↦ elim b [
        | inl v ↦ (let e = sym is ∙ v.1.0 in cc)
        | inr n ↦ elim n [ inl l ↦ (let e = sym is ∙ l.1.0 in cc) | inr o ↦ (let e = sym is ∙ o.0.0 in cc) ]
      ]
    ]

-- what begins the members of a body, and what then remains
record Ended (outer : List Path) (t : Told) (ts : List Told) : Type 0 where
  is : t.lexeme ≡ Close
  forth : (t.sets ≡ None) × Then (Is Semicolon None) (Inside outer) ts

record Begun (path : Path) (outer : List Path) (t : Told) (ts : List Told) : Type 0 where
  word : List ℕ
  is : t.lexeme ≡ Word word
  forth : (t.sets ≡ None) × WordedThen path outer word t.at ts

named_worded : (path : Path) (outer : List Path) (word : List ℕ) (at : ℕ) (ts : List Told) → NamedThen path outer [] word at ts → WordedThen path outer word at ts
named_worded path outer word at [] h = h
named_worded path outer word at (t ∷ ts) h = inr (inr h)

members_forth : (path : Path) (outer : List Path) (t : Told) (ts : List Told) (u : Told) (ys : List Told) → AreMembers path (t ∷ ts) (u ∷ ys) → Is Semicolon None u → Inside outer ys → Ended outer t ts ⊎ Begun path outer t ts
members_forth _ outer _ _ u ys (grammar.end path t _ ht) hu h = inl (record { is = ht.0; forth = (ht.1, (hu, h)) })
members_forth _ outer _ _ u ys (grammar.flag path word t v xs _ ht form hv more) hu h = inr (record { word = word; is = ht.0; forth = (ht.1, inl (form, hv, (u, ys, more, hu, h))) })
members_forth _ outer _ _ u ys (grammar.property path word t v xs zs _ ht form hv value more) hu h =
    inr (record { word = word; is = ht.0; forth = (ht.1, inr (inl (form, hv, (zs, value, (u, ys, more, hu, h))))) })
members_forth path outer t ts u ys (grammar.node _ name v _ xs zs _ opening inner hv others) hu h =
    let head = opening_forth path outer [] name t ts xs opening (v, zs, inner, hv, (u, ys, others, hu, h)) in
    inr (record { word = head.word; is = head.is; forth = (head.forth.0, named_worded path outer head.word t.at ts head.forth.1) })

close_back : (path : Path) (outer : List Path) (t : Told) (ts : List Told) → t.lexeme ≡ Close → (t.sets ≡ None) × Then (Is Semicolon None) (Inside outer) ts → Inside (path ∷ outer) (t ∷ ts)
close_back path outer t [] is h = absurd h.1
close_back path outer t (u ∷ ts) is h = (u, ts, grammar.end path t (u ∷ ts) (is, h.0), h.1.0, h.1.1)

-- a node's head begins a member
opening_inside : (path : Path) (outer : List Path) (ts : List Told) → OpeningThen path outer [] ts → Inside (path ∷ outer) ts
opening_inside path outer ts h =
    let inner = h.3 in
    let rest = inner.4 in
    (rest.0, rest.1, grammar.node path h.0 inner.0 ts h.1 inner.1 (rest.0 ∷ rest.1) h.2 inner.2 inner.3 rest.2, rest.3, rest.4)

member_back : (path : Path) (outer : List Path) (word : List ℕ) (t : Told) (ts : List Told) → t.lexeme ≡ Word word → (t.sets ≡ None) × WordedThen path outer word t.at ts → Inside (path ∷ outer) (t ∷ ts)
member_back path outer word t [] is h = absurd h.1
member_back path outer word t (u ∷ ts) is h =
    elim h.1 [
      | inl flag ↦ (let after = flag.2 in (after.0, after.1, grammar.flag path word t u ts (after.0 ∷ after.1) (is, h.0) flag.0 flag.1 after.2, after.3, after.4))
      | inr others ↦ elim others [
        | inl value ↦ (let after = value.2.2 in (after.0, after.1, grammar.property path word t u ts value.2.0 (after.0 ∷ after.1) (is, h.0) value.0 value.1 value.2.1 after.2, after.3, after.4))
        | inr node ↦ opening_inside path outer (t ∷ u ∷ ts) (opening_back path outer [] word t (u ∷ ts) is (h.0, node))
      ]
    ]

same_word : (path : Path) (outer : List Path) (word : List ℕ) (t : Told) (ts : List Told) → t.lexeme ≡ Word word → Begun path outer t ts → (t.sets ≡ None) × WordedThen path outer word t.at ts
same_word path outer word t ts is h =
    let e : Word h.word ≡ Word word = sym h.is ∙ is in
    let n : h.word ≡ word = cc in
    subst (λ (w : List ℕ). (t.sets ≡ None) × WordedThen path outer w t.at ts) n h.forth

follows_members : (path : Path) (outer : List Path) (t : Told) (ts : List Told) (lexeme : Lexeme) → t.lexeme ≡ lexeme → Follows (Inside (path ∷ outer)) t ts (move_between (path ∷ outer) lexeme t.at)
follows_members path outer t ts Close is =
    (λ h. elim (members_forth path outer t ts h.0 h.1 h.2 h.3 h.4) [ inl e ↦ e.forth | inr b ↦ absurd (let no : Close ≡ Word b.word = sym is ∙ b.is in cc) ], close_back path outer t ts is)
follows_members path outer t ts (Word word) is =
    (λ h. elim (members_forth path outer t ts h.0 h.1 h.2 h.3 h.4) [ inl e ↦ absurd (let no : Word word ≡ Close = sym is ∙ e.is in cc) | inr b ↦ same_word path outer word t ts is b ], member_back path outer word t ts is)
follows_members path outer t ts _ is =
    λ h. elim (members_forth path outer t ts h.0 h.1 h.2 h.3 h.4) [ inl e ↦ (let no = sym is ∙ e.is in cc) | inr b ↦ (let no = sym is ∙ b.is in cc) ]

follows_between : (bodies : List Path) (t : Told) (ts : List Told) (lexeme : Lexeme) → t.lexeme ≡ lexeme → Follows (Inside bodies) t ts (move_between bodies lexeme t.at)
follows_between [] t ts lexeme is = follows_items t ts lexeme is
follows_between (path ∷ outer) t ts lexeme is = follows_members path outer t ts lexeme is

-- ---- the value of a property

record Valuing (r : Reading) (ts : List Told) : Type 0 where
  part : Part Label
  rest : List Told
  is : IsPart part ts rest
  then : PartThen (with_part r part) rest

value_forth : (path : Path) (outer : List Path) (name : List ℕ) (parts : List (Part Label)) (ts rest : List Told) → IsValue path name parts ts rest → Inside (path ∷ outer) rest → Valuing (record { path = path; outer = outer; name = name; parts = parts }) ts
value_forth path outer name _ ts _ (grammar.last parts part u _ rest is hu) h = record { part = part; rest = u ∷ rest; is = is; then = inl (hu, h) }
value_forth path outer name _ ts _ (grammar.more parts part u _ ys rest is hu others) h = record { part = part; rest = u ∷ ys; is = is; then = inr (hu, (rest, others, h)) }

value_back : (r : Reading) (part : Part Label) (ts rest : List Told) → IsPart part ts rest → PartThen (with_part r part) rest → ValueThen r ts
value_back r part ts [] is h = absurd h
value_back r part ts (u ∷ us) is h =
    elim h [
      | inl a ↦ (us, grammar.last r.parts part u ts us is a.0, a.1)
      | inr b ↦ (b.1.0, grammar.more r.parts part u ts us b.1.0 is b.0 b.1.1, b.1.2)
    ]

-- what a part begins with
data PartBy (t : Told) (ts : List Told) (part : Part Label) (rest : List Told) : Type 0 where
  by_cells : (cells : List (Cell Label)) → Is Less None t → IsCells cells ts rest → part ≡ value.Cells cells → PartBy t ts part rest
  by_bytes : (bytes : List ℕ) → Is Left None t → IsBytes bytes ts rest → part ≡ value.Bytes bytes → PartBy t ts part rest
  by_text : (bytes : List ℕ) → Is (String bytes) None t → ts ≡ rest → part ≡ value.Text bytes → PartBy t ts part rest
  by_ref : (name : List ℕ) → Is (Ref name) None t → ts ≡ rest → part ≡ value.Whole (label_of name t.at) → PartBy t ts part rest

part_by_first : (part : Part Label) (t : Told) (ts rest : List Told) → IsPart part (t ∷ ts) rest → PartBy t ts part rest
part_by_first _ _ _ rest (grammar.cells cells t xs _ ht more) = by_cells cells ht more refl
part_by_first _ _ _ rest (grammar.bytes bytes t xs _ ht more) = by_bytes bytes ht more refl
part_by_first _ _ _ _ (grammar.text bytes t rest ht) = by_text bytes ht refl refl
part_by_first _ _ _ _ (grammar.ref name t rest ht) = by_ref name ht refl refl

part_less : (r : Reading) (part : Part Label) (t : Told) (ts rest : List Told) → t.lexeme ≡ Less → PartThen (with_part r part) rest → PartBy t ts part rest → (t.sets ≡ None) × CellsThen r [] ts
part_less r part t ts rest is h (by_cells cells ht more e) = (ht.1, (cells, rest, more, subst (λ (p : Part Label). PartThen (with_part r p) rest) e h))
part_less r part t ts rest is h (by_bytes bytes ht more e) = absurd (let no : Less ≡ Left = sym is ∙ ht.0 in cc)
part_less r part t ts rest is h (by_text bytes ht more e) = absurd (let no : Less ≡ String bytes = sym is ∙ ht.0 in cc)
part_less r part t ts rest is h (by_ref name ht more e) = absurd (let no : Less ≡ Ref name = sym is ∙ ht.0 in cc)

part_left : (r : Reading) (part : Part Label) (t : Told) (ts rest : List Told) → t.lexeme ≡ Left → PartThen (with_part r part) rest → PartBy t ts part rest → (t.sets ≡ None) × BytesThen r [] ts
part_left r part t ts rest is h (by_cells cells ht more e) = absurd (let no : Left ≡ Less = sym is ∙ ht.0 in cc)
part_left r part t ts rest is h (by_bytes bytes ht more e) = (ht.1, (bytes, rest, more, subst (λ (p : Part Label). PartThen (with_part r p) rest) e h))
part_left r part t ts rest is h (by_text bytes ht more e) = absurd (let no : Left ≡ String bytes = sym is ∙ ht.0 in cc)
part_left r part t ts rest is h (by_ref name ht more e) = absurd (let no : Left ≡ Ref name = sym is ∙ ht.0 in cc)

part_string : (r : Reading) (text : List ℕ) (part : Part Label) (t : Told) (ts rest : List Told) → t.lexeme ≡ String text → PartThen (with_part r part) rest → PartBy t ts part rest → (t.sets ≡ None) × PartThen (with_part r (value.Text text)) ts
part_string r text part t ts rest is h (by_cells cells ht more e) = absurd (let no : String text ≡ Less = sym is ∙ ht.0 in cc)
part_string r text part t ts rest is h (by_bytes bytes ht more e) = absurd (let no : String text ≡ Left = sym is ∙ ht.0 in cc)
part_string r text part t ts rest is h (by_text bytes ht more e) =
    let same : String bytes ≡ String text = sym ht.0 ∙ is in
    let n : bytes ≡ text = cc in
    (ht.1, subst (λ (us : List Told). PartThen (with_part r (value.Text text)) us) (sym more) (subst (λ (p : Part Label). PartThen (with_part r p) rest) (e ∙ ap value.Text n) h))
part_string r text part t ts rest is h (by_ref name ht more e) = absurd (let no : String text ≡ Ref name = sym is ∙ ht.0 in cc)

part_ref : (r : Reading) (label : List ℕ) (part : Part Label) (t : Told) (ts rest : List Told) → t.lexeme ≡ Ref label → PartThen (with_part r part) rest → PartBy t ts part rest → (t.sets ≡ None) × PartThen (with_part r (value.Whole (label_of label t.at))) ts
part_ref r label part t ts rest is h (by_cells cells ht more e) = absurd (let no : Ref label ≡ Less = sym is ∙ ht.0 in cc)
part_ref r label part t ts rest is h (by_bytes bytes ht more e) = absurd (let no : Ref label ≡ Left = sym is ∙ ht.0 in cc)
part_ref r label part t ts rest is h (by_text bytes ht more e) = absurd (let no : Ref label ≡ String bytes = sym is ∙ ht.0 in cc)
part_ref r label part t ts rest is h (by_ref name ht more e) =
    let same : Ref name ≡ Ref label = sym ht.0 ∙ is in
    let n : name ≡ label = cc in
    (ht.1, subst (λ (us : List Told). PartThen (with_part r (value.Whole (label_of label t.at))) us) (sym more) (subst (λ (p : Part Label). PartThen (with_part r p) rest) (e ∙ ap (λ (m : List ℕ). value.Whole (label_of m t.at)) n) h))

part_other : (lexeme : Lexeme) (part : Part Label) (t : Told) (ts rest : List Told) → t.lexeme ≡ lexeme → Other lexeme Less → Other lexeme Left → ((bytes : List ℕ) → Other lexeme (String bytes)) → ((name : List ℕ) → Other lexeme (Ref name)) → PartBy t ts part rest → ⊥
part_other lexeme part t ts rest is less left text ref (by_cells cells ht more e) = less (sym is ∙ ht.0)
part_other lexeme part t ts rest is less left text ref (by_bytes bytes ht more e) = left (sym is ∙ ht.0)
part_other lexeme part t ts rest is less left text ref (by_text bytes ht more e) = text bytes (sym is ∙ ht.0)
part_other lexeme part t ts rest is less left text ref (by_ref name ht more e) = ref name (sym is ∙ ht.0)

module _ (r : Reading) (t : Told) (ts : List Told) where
  valuing : ValueThen r (t ∷ ts) → Valuing r (t ∷ ts)
  valuing h = value_forth r.path r.outer r.name r.parts (t ∷ ts) h.0 h.1 h.2

  follows_valued : (lexeme : Lexeme) → t.lexeme ≡ lexeme → Follows (ValueThen r) t ts (move_valued r lexeme t.at)
  follows_valued Less is =
      (λ h. let v = valuing h in part_less r v.part t ts v.rest is v.then (part_by_first v.part t ts v.rest v.is), λ h. value_back r (value.Cells h.1.0) (t ∷ ts) h.1.1 (grammar.cells h.1.0 t ts h.1.1 (is, h.0) h.1.2) h.1.3)
  follows_valued Left is =
      (λ h. let v = valuing h in part_left r v.part t ts v.rest is v.then (part_by_first v.part t ts v.rest v.is), λ h. value_back r (value.Bytes h.1.0) (t ∷ ts) h.1.1 (grammar.bytes h.1.0 t ts h.1.1 (is, h.0) h.1.2) h.1.3)
  follows_valued (String text) is =
      (λ h. let v = valuing h in part_string r text v.part t ts v.rest is v.then (part_by_first v.part t ts v.rest v.is), λ h. value_back r (value.Text text) (t ∷ ts) ts (grammar.text text t ts (is, h.0)) h.1)
  follows_valued (Ref name) is =
      (λ h. let v = valuing h in part_ref r name v.part t ts v.rest is v.then (part_by_first v.part t ts v.rest v.is), λ h. value_back r (value.Whole (label_of name t.at)) (t ∷ ts) ts (grammar.ref name t ts (is, h.0)) h.1)
  follows_valued _ is = λ h. let v = valuing h in part_other _ v.part t ts v.rest is (λ e. (cc)) (λ e. (cc)) (λ bytes e. (cc)) (λ name e. (cc)) (part_by_first v.part t ts v.rest v.is)

-- ---- among cells

data CellsBy (t : Told) (ts : List Told) (cells : List (Cell Label)) (rest : List Told) : Type 0 where
  by_greater : Is Greater None t → ts ≡ rest → cells ≡ [] → CellsBy t ts cells rest
  by_number : (n : ℕ) (others : List (Cell Label)) → Is (Number n) None t → IsCells others ts rest → cells ≡ cell.Num n ∷ others → CellsBy t ts cells rest
  by_label : (name : List ℕ) (others : List (Cell Label)) → Is (Ref name) None t → IsCells others ts rest → cells ≡ cell.Node (label_of name t.at) ∷ others → CellsBy t ts cells rest

cells_by_first : (cells : List (Cell Label)) (t : Told) (ts rest : List Told) → IsCells cells (t ∷ ts) rest → CellsBy t ts cells rest
cells_by_first _ _ _ _ (grammar.end t rest ht) = by_greater ht refl refl
cells_by_first _ _ _ rest (grammar.number n others t xs _ ht more) = by_number n others ht more refl
cells_by_first _ _ _ rest (grammar.ref name others t xs _ ht more) = by_label name others ht more refl

module _ (r : Reading) (before : List (Cell Label)) (t : Told) (ts : List Told) where
  -- what the cells so far and others come to
  abbrev Ends : List (Cell Label) → List Told → Type 0
  Ends cells rest = PartThen (with_part r (value.Cells cells)) rest

  cells_greater : (cells : List (Cell Label)) (rest : List Told) → t.lexeme ≡ Greater → Ends (before ++ cells) rest → CellsBy t ts cells rest → (t.sets ≡ None) × Ends before ts
  cells_greater cells rest is h (by_greater ht same e) =
      (ht.1, subst (λ (us : List Told). Ends before us) (sym same) (subst (λ (cs : List (Cell Label)). Ends cs rest) (ap (λ (cs : List (Cell Label)). before ++ cs) e ∙ append-nil before) h))
  cells_greater cells rest is h (by_number n others ht more e) = absurd (let no : Greater ≡ Number n = sym is ∙ ht.0 in cc)
  cells_greater cells rest is h (by_label name others ht more e) = absurd (let no : Greater ≡ Ref name = sym is ∙ ht.0 in cc)

  cells_more : (c : Cell Label) (cells others : List (Cell Label)) (rest : List Told) → IsCells others ts rest → cells ≡ c ∷ others → Ends (before ++ cells) rest → CellsThen r (before ++ c ∷ []) ts
  cells_more c cells others rest more e h =
      (others, rest, more, subst (λ (cs : List (Cell Label)). Ends cs rest) (ap (λ (cs : List (Cell Label)). before ++ cs) e ∙ sym (append_assoc before (c ∷ []) others)) h)

  cells_number : (n : ℕ) (cells : List (Cell Label)) (rest : List Told) → t.lexeme ≡ Number n → Ends (before ++ cells) rest → CellsBy t ts cells rest → (t.sets ≡ None) × CellsThen r (before ++ cell.Num n ∷ []) ts
  cells_number n cells rest is h (by_greater ht same e) = absurd (let no : Number n ≡ Greater = sym is ∙ ht.0 in cc)
  cells_number n cells rest is h (by_number m others ht more e) =
      let same : Number m ≡ Number n = sym ht.0 ∙ is in
      let eq : m ≡ n = cc in
      (ht.1, cells_more (cell.Num n) cells others rest more (e ∙ ap (λ (k : ℕ). cell.Num k ∷ others) eq) h)
  cells_number n cells rest is h (by_label name others ht more e) = absurd (let no : Number n ≡ Ref name = sym is ∙ ht.0 in cc)

  cells_label : (name : List ℕ) (cells : List (Cell Label)) (rest : List Told) → t.lexeme ≡ Ref name → Ends (before ++ cells) rest → CellsBy t ts cells rest → (t.sets ≡ None) × CellsThen r (before ++ cell.Node (label_of name t.at) ∷ []) ts
  cells_label name cells rest is h (by_greater ht same e) = absurd (let no : Ref name ≡ Greater = sym is ∙ ht.0 in cc)
  cells_label name cells rest is h (by_number n others ht more e) = absurd (let no : Ref name ≡ Number n = sym is ∙ ht.0 in cc)
  cells_label name cells rest is h (by_label other others ht more e) =
      let same : Ref other ≡ Ref name = sym ht.0 ∙ is in
      let eq : other ≡ name = cc in
      (ht.1, cells_more (cell.Node (label_of name t.at)) cells others rest more (e ∙ ap (λ (m : List ℕ). cell.Node (label_of m t.at) ∷ others) eq) h)

  cells_other : (lexeme : Lexeme) (cells : List (Cell Label)) (rest : List Told) → t.lexeme ≡ lexeme → Other lexeme Greater → ((n : ℕ) → Other lexeme (Number n)) → ((name : List ℕ) → Other lexeme (Ref name)) → CellsBy t ts cells rest → ⊥
  cells_other lexeme cells rest is greater number ref (by_greater ht same e) = greater (sym is ∙ ht.0)
  cells_other lexeme cells rest is greater number ref (by_number n others ht more e) = number n (sym is ∙ ht.0)
  cells_other lexeme cells rest is greater number ref (by_label name others ht more e) = ref name (sym is ∙ ht.0)

  cells_back : (c : Cell Label) (others : List (Cell Label)) (rest : List Told) → IsCells (c ∷ others) (t ∷ ts) rest → Ends ((before ++ c ∷ []) ++ others) rest → CellsThen r before (t ∷ ts)
  cells_back c others rest is h = (c ∷ others, rest, is, subst (λ (cs : List (Cell Label)). Ends cs rest) (append_assoc before (c ∷ []) others) h)

  follows_cells : (lexeme : Lexeme) → t.lexeme ≡ lexeme → Follows (CellsThen r before) t ts (move_cells r before lexeme t.at)
  follows_cells Greater is =
      (λ h. cells_greater h.0 h.1 is h.3 (cells_by_first h.0 t ts h.1 h.2), λ h. ([], ts, grammar.end t ts (is, h.0), subst (λ (cs : List (Cell Label)). Ends cs ts) (sym (append-nil before)) h.1))
  follows_cells (Number n) is =
      (λ h. cells_number n h.0 h.1 is h.3 (cells_by_first h.0 t ts h.1 h.2), λ h. cells_back (cell.Num n) h.1.0 h.1.1 (grammar.number n h.1.0 t ts h.1.1 (is, h.0) h.1.2) h.1.3)
  follows_cells (Ref name) is =
      (λ h. cells_label name h.0 h.1 is h.3 (cells_by_first h.0 t ts h.1 h.2), λ h. cells_back (cell.Node (label_of name t.at)) h.1.0 h.1.1 (grammar.ref name h.1.0 t ts h.1.1 (is, h.0) h.1.2) h.1.3)
  follows_cells _ is = λ h. cells_other _ h.0 h.1 is (λ e. (cc)) (λ n e. (cc)) (λ name e. (cc)) (cells_by_first h.0 t ts h.1 h.2)

-- ---- among bytes

data BytesBy (t : Told) (ts : List Told) (bytes : List ℕ) (rest : List Told) : Type 0 where
  by_right : Is Right None t → ts ≡ rest → bytes ≡ [] → BytesBy t ts bytes rest
  by_word : (word others : List ℕ) → Is (Word word) None t → is_bytes word ≡ true → IsBytes others ts rest → bytes ≡ bytes_of word ++ others → BytesBy t ts bytes rest

bytes_by_first : (bytes : List ℕ) (t : Told) (ts rest : List Told) → IsBytes bytes (t ∷ ts) rest → BytesBy t ts bytes rest
bytes_by_first _ _ _ _ (grammar.end t rest ht) = by_right ht refl refl
bytes_by_first _ _ _ rest (grammar.word word others t xs _ ht form more) = by_word word others ht form more refl

module _ (r : Reading) (before : List ℕ) (t : Told) (ts : List Told) where
  abbrev EndsBytes : List ℕ → List Told → Type 0
  EndsBytes bytes rest = PartThen (with_part r (value.Bytes bytes)) rest

  bytes_right : (bytes : List ℕ) (rest : List Told) → t.lexeme ≡ Right → EndsBytes (before ++ bytes) rest → BytesBy t ts bytes rest → (t.sets ≡ None) × EndsBytes before ts
  bytes_right bytes rest is h (by_right ht same e) =
      (ht.1, subst (λ (us : List Told). EndsBytes before us) (sym same) (subst (λ (bs : List ℕ). EndsBytes bs rest) (ap (λ (bs : List ℕ). before ++ bs) e ∙ append-nil before) h))
  bytes_right bytes rest is h (by_word word others ht form more e) = absurd (let no : Right ≡ Word word = sym is ∙ ht.0 in cc)

  bytes_word : (word bytes : List ℕ) (rest : List Told) → t.lexeme ≡ Word word → EndsBytes (before ++ bytes) rest → BytesBy t ts bytes rest → (is_bytes word ≡ true) × ((t.sets ≡ None) × BytesThen r (before ++ bytes_of word) ts)
  bytes_word word bytes rest is h (by_right ht same e) = absurd (let no : Word word ≡ Right = sym is ∙ ht.0 in cc)
  bytes_word word bytes rest is h (by_word other others ht form more e) =
      let same : Word other ≡ Word word = sym ht.0 ∙ is in
      let eq : other ≡ word = cc in
      (sym (ap is_bytes eq) ∙ form, (ht.1, (others, rest, more, subst (λ (bs : List ℕ). EndsBytes bs rest) (ap (λ (bs : List ℕ). before ++ bs) (e ∙ ap (λ (w : List ℕ). bytes_of w ++ others) eq) ∙ sym (append_assoc before (bytes_of word) others)) h)))

  bytes_other : (lexeme : Lexeme) (bytes : List ℕ) (rest : List Told) → t.lexeme ≡ lexeme → Other lexeme Right → ((word : List ℕ) → Other lexeme (Word word)) → BytesBy t ts bytes rest → ⊥
  bytes_other lexeme bytes rest is right other (by_right ht same e) = right (sym is ∙ ht.0)
  bytes_other lexeme bytes rest is right other (by_word word others ht form more e) = other word (sym is ∙ ht.0)

  follows_bytes : (lexeme : Lexeme) → t.lexeme ≡ lexeme → Follows (BytesThen r before) t ts (move_bytes r before lexeme)
  follows_bytes Right is =
      (λ h. bytes_right h.0 h.1 is h.3 (bytes_by_first h.0 t ts h.1 h.2), λ h. ([], ts, grammar.end t ts (is, h.0), subst (λ (bs : List ℕ). EndsBytes bs ts) (sym (append-nil before)) h.1))
  follows_bytes (Word word) is =
      follows_if (is_bytes word) (BytesThen r before) t ts (InBytes r (before ++ bytes_of word), None)
      (λ form. (
        λ h. (bytes_word word h.0 h.1 is h.3 (bytes_by_first h.0 t ts h.1 h.2)).1,
        λ h. (bytes_of word ++ h.1.0, h.1.1, grammar.word word h.1.0 t ts h.1.1 (is, h.0) form h.1.2, subst (λ (bs : List ℕ). EndsBytes bs h.1.1) (append_assoc before (bytes_of word) h.1.0) h.1.3),
      ))
      (λ form h. (let e : true ≡ false = sym (bytes_word word h.0 h.1 is h.3 (bytes_by_first h.0 t ts h.1 h.2)).0 ∙ form in cc))
  follows_bytes _ is = λ h. bytes_other _ h.0 h.1 is (λ e. (cc)) (λ word e. (cc)) (bytes_by_first h.0 t ts h.1 h.2)

follows_parted : (r : Reading) (t : Told) (ts : List Told) (lexeme : Lexeme) → t.lexeme ≡ lexeme → Follows (PartThen r) t ts (move_parted r lexeme)
follows_parted r t ts Semicolon is =
    (λ h. elim h [ inl a ↦ (a.0.1, a.1) | inr b ↦ absurd (let e : Semicolon ≡ Comma = sym is ∙ b.0.0 in cc) ], λ h. inl ((is, h.0), h.1))
follows_parted r t ts Comma is =
    (λ h. elim h [ inl a ↦ absurd (let e : Comma ≡ Semicolon = sym is ∙ a.0.0 in cc) | inr b ↦ (b.0.1, b.1) ], λ h. inr ((is, h.0), h.1))
follows_parted r t ts _ is = λ h. elim h [ inl a ↦ (let e = sym is ∙ a.0.0 in cc) | inr b ↦ (let e = sym is ∙ b.0.0 in cc) ]

-- ---- each state

pub follows_move : (s : State) (t : Told) (ts : List Told) → Follows (Rest s) t ts (move s t.lexeme t.at)
unfolding move
follows_move Start t ts = follows_start t ts t.lexeme refl
follows_move Versioned t ts = follows_semicolon AreItems (Between []) (λ us. (λ h. h, λ h. h)) t ts t.lexeme refl
follows_move (Between bodies) t ts = follows_between bodies t ts t.lexeme refl
follows_move (Slashed slash) t ts = follows_open (Between (Root ∷ [])) (Some (OpensRoot slash)) t ts t.lexeme refl
follows_move (Added name) t ts = follows_open (Between (Labelled name ∷ [])) None t ts t.lexeme refl
follows_move (Closed bodies) t ts = follows_semicolon (Inside bodies) (Between bodies) (λ us. (λ h. h, λ h. h)) t ts t.lexeme refl
follows_move (Worded path outer word at) t ts = follows_worded path outer word at t ts t.lexeme refl
follows_move (Behind path outer labels) t ts = follows_word path outer labels t ts t.lexeme refl
follows_move (Named path outer labels word at) t ts = follows_named path outer labels word at t ts t.lexeme refl
follows_move (Valued r) t ts = follows_valued r t ts t.lexeme refl
follows_move (InCells r cells) t ts = follows_cells r cells t ts t.lexeme refl
follows_move (InBytes r bytes) t ts = follows_bytes r bytes t ts t.lexeme refl
follows_move (Parted r) t ts = follows_parted r t ts t.lexeme refl
