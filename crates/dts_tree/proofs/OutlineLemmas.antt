-- The machine's run over a text is the text's one outline.
use Rattle.std.proofs.Common.{◌≡◌, ℕ, suc, ◌+◌, List, [], ◌∷◌, ◌++◌, Bool, true, false, cond, Option, Some, None, length, take, refl, sym, ap, ◌∙◌, subst, inl, inr, arith, append_assoc}
use Rattle.std.specs.Prelude.{slice_get}
use Rattle.std.proofs.lemmas.List.{append-nil}
use Rattle.dts_lex.specs.declared.token.Token.{Token}
use Rattle.dts_tree.specs.declared.fault.TreeFault.TheVariants.{Syntax}
use Rattle.dts_tree.specs.declared.value.Cell.{Cell}
use Rattle.dts_tree.specs.Value.{Part}
use Rattle.dts_tree.specs.Value as value
use Rattle.dts_tree.specs.Setting.{Label, Path, Setting, OpensRoot, Opens, Sets, Root, Child, Labelled}
use Rattle.dts_tree.specs.Lexeme.{Lexeme, Version, Semicolon, Close, Open, Greater, Right, Word, String, lexeme_of}
use Rattle.dts_tree.specs.Grammar.{Told, Is, IsCells, IsBytes, IsPart, IsValue, AreMembers, IsOpening, AreItems, IsFile}
use Rattle.dts_tree.specs.Grammar as grammar
use Rattle.dts_tree.specs.Outline.{Reads, list_of, set_by, BeginText, Tell, IsOutline, fault_of}
use Rattle.dts_tree.specs.Inside.State.{Reading, State, Start, Versioned, Between, Slashed, Added, Closed, Worded, Behind, Named, Valued, InCells, InBytes, Parted, Move, move, is_whole, with_part}
use Rattle.dts_tree.specs.Inside.Rest.{Then, Inside, PartThen, Rest, Follows}
use Rattle.dts_tree.specs.Inside.Run.{Run, run, then_run}
use Rattle.dts_tree.proofs.MoveLemmas.{follows_move}

-- ---- readings of one more token

Reads-push : (text : List ℕ) (ks : List Token) (k : Token) (ts : List Told) (t : Told) → Reads text ks ts → t.lexeme ≡ lexeme_of text k → t.at ≡ k.start → Reads text (ks ++ k ∷ []) (ts ++ t ∷ [])
Reads-push text [] k [] t h says place = (says, place, tt)
Reads-push text [] k (u ∷ us) t h says place = absurd h
Reads-push text (l ∷ ls) k [] t h says place = absurd h
Reads-push text (l ∷ ls) k (u ∷ us) t h says place = (h.0, h.1, Reads-push text ls k us t h.2 says place)

record LastRead (text : List ℕ) (ks : List Token) (k : Token) (ts : List Told) : Type 0 where
  front : List Told
  last : Told
  whole : ts ≡ front ++ last ∷ []
  reads : Reads text ks front
  says : last.lexeme ≡ lexeme_of text k
  place : last.at ≡ k.start

Reads-last : (text : List ℕ) (ks : List Token) (k : Token) (ts : List Told) → Reads text (ks ++ k ∷ []) ts → LastRead text ks k ts
Reads-last text [] k [] h = absurd h
Reads-last text [] k (t ∷ []) h = record { front = []; last = t; whole = refl; reads = tt; says = h.0; place = h.1 }
Reads-last text [] k (t ∷ u ∷ us) h = absurd h.2
Reads-last text (l ∷ ls) k [] h = absurd h
Reads-last text (l ∷ ls) k (t ∷ ts) h =
    let r = Reads-last text ls k ts h.2 in
    record { front = t ∷ r.front; last = r.last; whole = ap (λ xs. t ∷ xs) r.whole; reads = (h.0, h.1, r.reads); says = r.says; place = r.place }

set_by-append : (xs ys : List Told) → set_by (xs ++ ys) ≡ set_by xs ++ set_by ys
set_by-append [] ys = refl
set_by-append (x ∷ xs) ys = ap (λ zs. list_of x.sets ++ zs) (set_by-append xs ys) ∙ sym (append_assoc (list_of x.sets) (set_by xs) (set_by ys))

Reads-none : (text : List ℕ) (ts : List Told) → Reads text [] ts → ts ≡ []
Reads-none text [] h = refl
Reads-none text (t ∷ ts) h = absurd h

-- the tokens up to a place have one reading that begins a text, and it goes on by what may come there
record ReadTo (text : List ℕ) (tokens : List Token) (settings : List Setting) (state : State) : Type 0 where
  front : List Told
  reads : Reads text tokens front
  telling : set_by front ≡ settings
  only : (other more : List Told) → Reads text tokens other → IsFile (other ++ more) → (other ≡ front) × Rest state more
  back : (more : List Told) → Rest state more → IsFile (front ++ more)

read_start : (text : List ℕ) → ReadTo text [] [] Start
read_start text = record {
  front = [];
  reads = tt;
  telling = refl;
  only = λ other more reads file. let none = Reads-none text other reads in (none, subst (λ (ts : List Told). IsFile (ts ++ more)) none file);
  back = λ more rest. rest;
}

told_same : (t u : Told) → t.lexeme ≡ u.lexeme → t.at ≡ u.at → t.sets ≡ u.sets → t ≡ u
told_same t u says place sets =
    ap (λ (l : Lexeme). record { lexeme = l; at = t.at; sets = t.sets }) says
    ∙ ap (λ (n : ℕ). record { lexeme = u.lexeme; at = n; sets = t.sets }) place
    ∙ ap (λ (s : Option Setting). record { lexeme = u.lexeme; at = u.at; sets = s }) sets

-- a token as the machine takes it
abbrev told_with : List ℕ → Token → Option Setting → Told
told_with text token sets = record { lexeme = lexeme_of text token; at = token.start; sets = sets }

module _ (text : List ℕ) (tokens : List Token) (settings : List Setting) (state : State) (token : Token) (read : ReadTo text tokens settings state) where
  follows_token : (t : Told) (ts : List Told) → t.lexeme ≡ lexeme_of text token → t.at ≡ token.start → (m : Option Move) → move state (lexeme_of text token) token.start ≡ m → Follows (Rest state) t ts m
  follows_token t ts says place m is =
      subst (λ (o : Option Move). Follows (Rest state) t ts o) (ap (λ (l : Lexeme). move state l t.at) says ∙ ap (λ (n : ℕ). move state (lexeme_of text token) n) place ∙ is) (follows_move state t ts)

  split_last : (other more : List Told) (r : LastRead text tokens token other) → IsFile (other ++ more) → IsFile (r.front ++ (r.last ∷ more))
  split_last other more r whole = subst IsFile (append_assoc r.front (r.last ∷ []) more) (subst (λ (ts : List Told). IsFile (ts ++ more)) r.whole whole)

  read_more : (next : State) (sets : Option Setting) → move state (lexeme_of text token) token.start ≡ Some (next, sets) → ReadTo text (tokens ++ token ∷ []) (settings ++ list_of sets) next
  read_more next sets is =
      let t : Told = told_with text token sets in
      record {
        front = read.front ++ t ∷ [];
        reads = Reads-push text tokens token read.front t read.reads refl refl;
        telling = set_by-append read.front (t ∷ []) ∙ ap (λ xs. xs ++ (list_of sets ++ [])) read.telling ∙ ap (λ xs. settings ++ xs) (append-nil (list_of sets));
        only = λ other more reads whole.
            let r = Reads-last text tokens token other reads in
            let before = read.only r.front (r.last ∷ more) r.reads (split_last other more r whole) in
            let now = (follows_token r.last more r.says r.place (Some (next, sets)) is).0 before.1 in
            (r.whole ∙ ap (λ xs. xs ++ r.last ∷ []) before.0 ∙ ap (λ u. read.front ++ u ∷ []) (told_same r.last t r.says r.place now.0), now.1);
        back = λ more rest.
            subst IsFile (sym (append_assoc read.front (t ∷ []) more)) (read.back (t ∷ more) ((follows_token t more refl refl (Some (next, sets)) is).1 (refl, rest)));
      }

  read_wrong : move state (lexeme_of text token) token.start ≡ None → BeginText text (tokens ++ token ∷ []) → ⊥
  read_wrong is begins =
      let r = Reads-last text tokens token begins.0 begins.1 in
      let more = begins.2.0 in
      let before = read.only r.front (r.last ∷ more) r.reads (split_last begins.0 more r begins.2.1) in
      follows_token r.last more r.says r.place None is before.1

-- ---- something may come in each state

mute : Lexeme → Option Setting → Told
mute lexeme sets = record { lexeme = lexeme; at = 0; sets = sets }

some_inside : (bodies : List Path) → (ts : List Told) × Inside bodies ts
unfolding mute
some_inside [] = ([], grammar.none)
some_inside (path ∷ outer) =
    let rest = some_inside outer in
    let close = mute Close None in
    let semi = mute Semicolon None in
    (close ∷ semi ∷ rest.0, (semi, rest.0, grammar.end path close (semi ∷ rest.0) (refl, refl), (refl, refl), rest.1))

some_part : (r : Reading) → (ts : List Told) × PartThen r ts
unfolding mute
some_part r = let rest = some_inside (r.path ∷ r.outer) in (mute Semicolon (Some (Sets r.path r.name r.parts)) ∷ rest.0, inl ((refl, refl), rest.1))

some_body : (sets : Option Setting) (bodies : List Path) → (ts : List Told) × Then (Is Open sets) (Inside bodies) ts
unfolding mute
some_body sets bodies = let rest = some_inside bodies in (mute Open sets ∷ rest.0, ((refl, refl), rest.1))

some_semicolon : (bodies : List Path) → (ts : List Told) × Then (Is Semicolon None) (Inside bodies) ts
unfolding mute
some_semicolon bodies = let rest = some_inside bodies in (mute Semicolon None ∷ rest.0, ((refl, refl), rest.1))

some_rest : (state : State) → (ts : List Told) × Rest state ts
unfolding mute
some_rest Start = (mute Version None ∷ mute Semicolon None ∷ [], grammar.file (mute Version None) (mute Semicolon None) [] (refl, refl) (refl, refl) grammar.none)
some_rest Versioned = some_semicolon []
some_rest (Between bodies) = some_inside bodies
some_rest (Slashed slash) = some_body (Some (OpensRoot slash)) (Root ∷ [])
some_rest (Added name) = some_body None (Labelled name ∷ [])
some_rest (Closed bodies) = some_semicolon bodies
some_rest (Worded path outer word at) = let body = some_inside (Child path word ∷ path ∷ outer) in (mute Open (Some (Opens path word at [])) ∷ body.0, inr (inr (inr ((refl, refl), body.1))))
some_rest (Behind path outer labels) =
    let body = some_inside (Child path [] ∷ path ∷ outer) in
    let name = mute (Word []) None in
    let open_ = mute Open (Some (Opens path [] 0 labels)) in
    (name ∷ open_ ∷ body.0, ([], body.0, grammar.name labels [] name open_ body.0 (refl, refl) (refl, refl), body.1))
some_rest (Named path outer labels word at) = let body = some_inside (Child path word ∷ path ∷ outer) in (mute Open (Some (Opens path word at labels)) ∷ body.0, inr ((refl, refl), body.1))
some_rest (Valued r) =
    let rest = some_inside (r.path ∷ r.outer) in
    let text = mute (String []) None in
    let semi = mute Semicolon (Some (Sets r.path r.name (r.parts ++ value.Text [] ∷ []))) in
    (text ∷ semi ∷ rest.0, (rest.0, grammar.last r.parts (value.Text []) semi (text ∷ semi ∷ rest.0) rest.0 (grammar.text [] text (semi ∷ rest.0) (refl, refl)) (refl, refl), rest.1))
some_rest (InCells r cells) =
    let rest = some_part (with_part r (value.Cells (cells ++ []))) in
    let close = mute Greater None in
    (close ∷ rest.0, ([], rest.0, grammar.end close rest.0 (refl, refl), rest.1))
some_rest (InBytes r bytes) =
    let rest = some_part (with_part r (value.Bytes (bytes ++ []))) in
    let close = mute Right None in
    (close ∷ rest.0, ([], rest.0, grammar.end close rest.0 (refl, refl), rest.1))
some_rest (Parted r) = some_part r

read_tells : (text : List ℕ) (tokens : List Token) (settings : List Setting) (state : State) → ReadTo text tokens settings state → Tell text tokens settings
read_tells text tokens settings state read =
    let more = some_rest state in
    record {
      begins = (read.front, read.reads, (more.0, read.back more.0 more.1));
      telling = λ ts reads begins. ap set_by (read.only ts begins.0 reads begins.1).0 ∙ read.telling;
    }

-- ---- the end of the text

no_opening : (path : Path) (labels : List Label) (name : List ℕ) (rest : List Told) → IsOpening path labels name [] rest → ⊥
no_opening path labels name rest h = elim h [ ]

no_cells : (cells : List (Cell Label)) (rest : List Told) → IsCells cells [] rest → ⊥
no_cells cells rest h = elim h [ ]

no_bytes : (bytes : List ℕ) (rest : List Told) → IsBytes bytes [] rest → ⊥
no_bytes bytes rest h = elim h [ ]

no_part : (part : Part Label) (rest : List Told) → IsPart part [] rest → ⊥
no_part part rest h = elim h [ ]

no_value_of : (path : Path) (name : List ℕ) (parts : List (Part Label)) (rest : List Told) → IsValue path name parts [] rest → ⊥
no_value_of path name _ _ (grammar.last parts part t _ rest is ht) = no_part part (t ∷ rest) is
no_value_of path name _ rest (grammar.more parts part t _ ys _ is ht others) = no_part part (t ∷ ys) is

no_value : (r : Reading) (rest : List Told) → IsValue r.path r.name r.parts [] rest → ⊥
no_value r rest h = no_value_of r.path r.name r.parts rest h

no_members : (path : Path) (rest : List Told) → AreMembers path [] rest → ⊥
no_members path rest (grammar.node _ name v _ xs zs _ opening inner hv others) = no_opening path [] name xs opening

inside_whole : (bodies : List Path) → is_whole (Between bodies) ≡ true → Inside bodies []
inside_whole [] is = grammar.none
inside_whole (path ∷ outer) is = absurd (let e : false ≡ true = is in cc)

whole_rest : (state : State) → is_whole state ≡ true → Rest state []
whole_rest (Between bodies) is = inside_whole bodies is
whole_rest _ is = absurd (let e : false ≡ true = is in cc)

inside_short : (bodies : List Path) → is_whole (Between bodies) ≡ false → Inside bodies [] → ⊥
inside_short [] is h = let e : true ≡ false = is in cc
inside_short (path ∷ outer) is h = no_members path (h.0 ∷ h.1) h.2

no_file : IsFile [] → ⊥
no_file h = elim h [ ]

short_rest : (state : State) → is_whole state ≡ false → Rest state [] → ⊥
short_rest Start is h = no_file h
short_rest Versioned is h = h
short_rest (Between bodies) is h = inside_short bodies is h
short_rest (Slashed slash) is h = h
short_rest (Added name) is h = h
short_rest (Closed bodies) is h = h
short_rest (Worded path outer word at) is h = h
short_rest (Behind path outer labels) is h = no_opening path labels h.0 h.1 h.2
short_rest (Named path outer labels word at) is h = h
short_rest (Valued r) is h = no_value r h.0 h.1
short_rest (InCells r cells) is h = no_cells h.0 h.1 h.2
short_rest (InBytes r bytes) is h = no_bytes h.0 h.1 h.2
short_rest (Parted r) is h = h

-- ---- the whole run

-- the run from a state on, behind what was read
abbrev Whole : List ℕ → List Token → List Setting → Run → Type 0
Whole text tokens settings r = IsOutline text tokens (settings ++ r.settings) r.fault

module _ (text : List ℕ) where
  take_front : (front : List Token) (rest : List Token) → take (length front) (front ++ rest) ≡ front
  take_front [] rest = refl
  take_front (k ∷ front) rest = ap (λ ks. k ∷ ks) (take_front front rest)

  take_next : (front : List Token) (token : Token) (rest : List Token) → take (length front + 1) (front ++ token ∷ rest) ≡ front ++ token ∷ []
  take_next [] token rest = refl
  take_next (k ∷ front) token rest = let e : length (k ∷ front) + 1 ≡ suc (length front + 1) = omega arith in ap (λ n. take n (k ∷ (front ++ token ∷ rest))) e ∙ ap (λ ks. k ∷ ks) (take_next front token rest)

  get_next : (front : List Token) (token : Token) (rest : List Token) → slice_get (front ++ token ∷ rest) (length front) ≡ Some token
  get_next [] token rest = refl
  get_next (k ∷ front) token rest = get_next front token rest

  ends : (tokens : List Token) (settings : List Setting) (state : State) → ReadTo text tokens settings state → Whole text tokens settings (run text state [])
  unfolding run
  ends tokens settings state read =
      elim (is_whole state) as (λ (b : Bool). is_whole state ≡ b → IsOutline text tokens (settings ++ []) (cond b None (Some (Syntax (length text))))) [
        | true ↦ λ is. rw (append-nil settings) (read_tells text tokens settings state read, (read.front, read.reads, subst IsFile (append-nil read.front) (read.back [] (whole_rest state is))))
        | false ↦ λ is. rw (append-nil settings) (inr (record {
          told = read_tells text tokens settings state read;
          short = λ t. short_rest state is (read.only t.0 [] t.1 (subst IsFile (sym (append-nil t.0)) t.2)).1;
          named = refl;
        }))
      ] refl

  breaks : (front : List Token) (settings : List Setting) (state : State) (token : Token) (rest : List Token) → ReadTo text front settings state → move state (lexeme_of text token) token.start ≡ None → IsOutline text (front ++ token ∷ rest) (settings ++ []) (Some (fault_of text token))
  breaks front settings state token rest read is =
      rw (append-nil settings) (inl (record {
        n = length front;
        token = token;
        there = get_next front token rest;
        told = rw (take_front front (token ∷ rest)) (read_tells text front settings state read);
        wrong = λ begins. read_wrong text front settings state token read is (subst (BeginText text) (take_next front token rest) begins);
        named = refl;
      }))

  outline_from : (front rest : List Token) (settings : List Setting) (state : State) → ReadTo text front settings state → Whole text (front ++ rest) settings (run text state rest)
  unfolding run
  outline_from front [] settings state read = rw (append-nil front) (ends front settings state read)
  outline_from front (token ∷ rest) settings state read =
      elim (move state (lexeme_of text token) token.start) as (λ (o : Option Move). move state (lexeme_of text token) token.start ≡ o → Whole text (front ++ token ∷ rest) settings (then_run text token (λ next. run text next rest) o)) [
        | None ↦ λ is. breaks front settings state token rest read is
        | Some m ↦ λ is. (
            let others = outline_from (front ++ token ∷ []) rest (settings ++ list_of m.1) m.0 (read_more text front settings state token read m.0 m.1 is) in
            let r = run text m.0 rest in
            subst (λ (ks : List Token). IsOutline text ks (settings ++ (list_of m.1 ++ r.settings)) r.fault) (append_assoc front (token ∷ []) rest)
            (subst (λ (ss : List Setting). IsOutline text ((front ++ token ∷ []) ++ rest) ss r.fault) (append_assoc settings (list_of m.1) r.settings) others))
      ] refl

  -- the run is an outline of the text
  pub outline_run : (tokens : List Token) → IsOutline text tokens (run text Start tokens).settings (run text Start tokens).fault
  outline_run tokens = outline_from [] tokens [] Start (read_start text)
