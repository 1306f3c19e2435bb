-- What stands behind the word of a fault, told in one way.
use Rattle.std.proofs.Common.{ℕ, ◌≡◌, ◌^◌, ◌<◌, List, [], ◌∷◌, ◌++◌, codes, decimal, drop, get_or, All, flat_map, refl, sym, ap, ◌∙◌, arith, append_assoc, inl, inr}
use Rattle.board.specs.declared.board.Board.{Board}
use Rattle.board.specs.declared.rail_id.RailId.{RailId}
use Rattle.board.specs.Valid.{HasNames}
use Rattle.rows.specs.declared.answer.Answer.{Answer}
use Rattle.rows.specs.declared.answer.Answer.TheVariants.{Ok, OkTime, OkSet, OkMode, OkUv, OkOn, OkList, OkYes, OkEvents, BadRange, NoValue, Unbalanced, CountFull, StillEnabled, Taken, HandleOpen, HandlesFull, NoHandle, NotAllowed, NoMode, NotListening, Suspended, NotSuspended, Fault}
use Rattle.rows.specs.AnswerParts.{IsAnswer}
use Rattle.rows.specs.AnswerText.{now_text}
use Rattle.rows.specs.Fits.{FitsNow, Told}
use Rattle.rows.specs.Row.{rail_name}
use Rattle.rows.specs.Tails.{IsTail}
use Rattle.rows.specs.Words.{spaced, hex_text}
use Rattle.rows.proofs.BoardCalls.{rail_lacks}
use Rattle.rows.proofs.Parts.{tail_same}
use Rattle.rows.proofs.Separators.{Lacks, split_once}
use Rattle.rows.proofs.Spaces.{Lacks-decimal, Lacks-hex_text}

-- a rail that changed, in front of a text
pub now_front : (name : RailId → List ℕ) (now : RailId × ℕ) (more : List ℕ) → now_text name now ++ more ≡ 32 ∷ (name now.0 ++ 32 ∷ (decimal now.1 ++ more))
now_front name now more = ap (λ t. 32 ∷ t) (append_assoc (name now.0) (32 ∷ decimal now.1) more)

pub nows_tail : (name : RailId → List ℕ) (more : List (RailId × ℕ)) → IsTail 32 (flat_map (now_text name) more)
nows_tail name [] = inl refl
nows_tail name (now ∷ more) = inr ((name now.0 ++ 32 ∷ decimal now.1) ++ flat_map (now_text name) more, refl)

module _ (board : Board) (names : HasNames board) (text word others : List ℕ) (first : text ≡ codes " " ++ (word ++ 32 ∷ others)) (lw : Lacks 32 word) where
  -- the name of the rail
  pub name_told : (now : RailId × ℕ) (more : List ℕ) → text ≡ now_text (rail_name board) now ++ more → (word ≡ rail_name board now.0) × (others ≡ decimal now.1 ++ more)
  name_told now more same =
      split_once 32 word others (rail_name board now.0) (decimal now.1 ++ more) lw (rail_lacks 32 (omega arith) board names now.0) (ap (drop 1) (sym first ∙ same ∙ now_front (rail_name board) now more))

  -- its value, and what stands behind it
  pub value_told : (uv rest : List ℕ) → others ≡ uv ++ rest → Lacks 32 uv → IsTail 32 rest → (now : RailId × ℕ) (more : List ℕ) → now.1 < 2 ^ 32 → IsTail 32 more → text ≡ now_text (rail_name board) now ++ more → (uv ≡ decimal now.1) × (rest ≡ more)
  value_told uv rest split lacks ends now more small tail same =
      tail_same 32 uv rest (decimal now.1) more lacks (Lacks-decimal now.1 small) ends tail (sym split ∙ (name_told now more same).1)

pub now_made : (board : Board) (id : RailId) (n : ℕ) (text word others uv rest : List ℕ) → text ≡ codes " " ++ (word ++ 32 ∷ others) → others ≡ uv ++ rest → rail_name board id ≡ word → uv ≡ decimal n → text ≡ now_text (rail_name board) (id, n) ++ rest
now_made board id n text word others uv rest first split named value =
    let e = now_front (rail_name board) (id, n) rest in
    first ∙ ap (λ o. 32 ∷ (word ++ 32 ∷ o)) split ∙ ap (λ w. 32 ∷ (w ++ 32 ∷ (uv ++ rest))) (sym named) ∙ ap (λ v. 32 ∷ (rail_name board id ++ 32 ∷ (v ++ rest))) value ∙ sym e

pub no_name : (text : List ℕ) (board : Board) (now : RailId × ℕ) (more words : List ℕ) → text ≡ codes " " ++ words → text ≡ now_text (rail_name board) now ++ more → words ≡ rail_name board now.0 ++ 32 ∷ (decimal now.1 ++ more)
no_name text board now more words first same = ap (drop 1) (sym first ∙ same ∙ now_front (rail_name board) now more)

pub now_cut : (board : Board) → HasNames board → (now other : RailId × ℕ) (next more : List ℕ) → FitsNow board now → FitsNow board other → IsTail 32 next → IsTail 32 more → now_text (rail_name board) now ++ next ≡ now_text (rail_name board) other ++ more → next ≡ more
now_cut board names now other next more fits fits' ends ends' same =
    (value_told board names (now_text (rail_name board) now ++ next) (rail_name board now.0) (decimal now.1 ++ next) (now_front (rail_name board) now next) (rail_lacks 32 (omega arith) board names now.0) (decimal now.1) next refl (Lacks-decimal now.1 fits.1) ends other more fits'.1 ends' same).1

-- the parts of a fault
pub record IsFault (board : Board) (words : List ℕ) : Type 0 where
  pub chip : ℕ
  pub reg : ℕ
  pub applied : ℕ
  pub now : List (RailId × ℕ)
  pub small_chip : chip < 2 ^ 8
  pub small_reg : reg < 2 ^ 8
  pub small_applied : applied < 2 ^ 32
  pub rails : All (FitsNow board) now
  pub spelled : words ≡ decimal chip ++ 32 ∷ (hex_text reg ++ 32 ∷ (decimal applied ++ flat_map (now_text (rail_name board)) now))

pub fault_text_is : (name : RailId → List ℕ) (chip reg applied : ℕ) (now : List (RailId × ℕ)) → spaced (decimal chip ∷ hex_text reg ∷ decimal applied ∷ []) ++ flat_map (now_text name) now ≡ decimal chip ++ 32 ∷ (hex_text reg ++ 32 ∷ (decimal applied ++ flat_map (now_text name) now))
fault_text_is name chip reg applied now =
    append_assoc (decimal chip) (32 ∷ (hex_text reg ++ 32 ∷ decimal applied)) (flat_map (now_text name) now)

-- no other answer begins with that word
pub fault_of : (board : Board) (kind : Told) (answer : Answer) (words : List ℕ) → IsAnswer board kind answer (codes "fault" ∷ words ∷ []) → IsFault board words
fault_of board kind Ok words told = absurd (omega (arith, ap (λ ws. get_or (get_or ws 0 []) 0 0) told.spelled))
fault_of board kind (OkTime delay) words told = absurd (omega (arith, ap (λ ws. get_or (get_or ws 0 []) 0 0) told.spelled))
fault_of board kind (OkSet uv delay) words told = absurd (omega (arith, ap (λ ws. get_or (get_or ws 0 []) 0 0) told.spelled))
fault_of board kind (OkMode mode) words told = absurd (omega (arith, ap (λ ws. get_or (get_or ws 0 []) 0 0) told.spelled))
fault_of board kind (OkUv uv) words told = absurd (omega (arith, ap (λ ws. get_or (get_or ws 0 []) 0 0) told.spelled))
fault_of board kind (OkOn on) words told = absurd (omega (arith, ap (λ ws. get_or (get_or ws 0 []) 0 0) told.spelled))
fault_of board kind (OkList uv) words told = absurd (omega (arith, ap (λ ws. get_or (get_or ws 0 []) 0 0) told.spelled))
fault_of board kind (OkYes is) words told = absurd (omega (arith, ap (λ ws. get_or (get_or ws 0 []) 0 0) told.spelled))
fault_of board kind (OkEvents list) words told = absurd (omega (arith, ap (λ ws. get_or (get_or ws 0 []) 0 0) told.spelled))
fault_of board kind (BadRange lo hi) words told = absurd (omega (arith, ap (λ ws. get_or (get_or ws 0 []) 0 0) told.spelled))
fault_of board kind NoValue words told = absurd (omega (arith, ap (λ ws. get_or (get_or ws 0 []) 0 0) told.spelled))
fault_of board kind (Unbalanced enables) words told = absurd (omega (arith, ap (λ ws. get_or (get_or ws 0 []) 0 0) told.spelled))
fault_of board kind (CountFull enables) words told = absurd (omega (arith, ap (λ ws. get_or (get_or ws 0 []) 0 0) told.spelled))
fault_of board kind (StillEnabled enables) words told = absurd (omega (arith, ap (λ ws. get_or (get_or ws 0 []) 0 0) told.spelled))
fault_of board kind (Taken handles) words told = absurd (omega (arith, ap (λ ws. get_or (get_or ws 0 []) 0 0) told.spelled))
fault_of board kind HandleOpen words told = absurd (omega (arith, ap (λ ws. get_or (get_or ws 0 []) 0 0) told.spelled))
fault_of board kind (HandlesFull handles) words told = absurd (omega (arith, ap (λ ws. get_or (get_or ws 0 []) 0 0) told.spelled))
fault_of board kind NoHandle words told = absurd (omega (arith, ap (λ ws. get_or (get_or ws 0 []) 0 0) told.spelled))
fault_of board kind NotAllowed words told = absurd (omega (arith, ap (λ ws. get_or (get_or ws 0 []) 0 0) told.spelled))
fault_of board kind (NoMode sum) words told = absurd (omega (arith, ap (λ ws. get_or (get_or ws 0 []) 0 0) told.spelled))
fault_of board kind NotListening words told = absurd (omega (arith, ap (λ ws. get_or (get_or ws 0 []) 0 0) told.spelled))
fault_of board kind Suspended words told = absurd (omega (arith, ap (λ ws. get_or (get_or ws 0 []) 0 0) told.spelled))
fault_of board kind NotSuspended words told = absurd (omega (arith, ap (λ ws. get_or (get_or ws 0 []) 0 0) told.spelled))
fault_of board kind (Fault chip reg applied now) words told = record {
  chip = chip;
  reg = reg;
  applied = applied;
  now = now;
  small_chip = told.is.0;
  small_reg = told.is.1;
  small_applied = told.is.2;
  rails = told.is.3;
  spelled = let e = told.spelled in let same : words ≡ spaced (decimal chip ∷ hex_text reg ∷ decimal applied ∷ []) ++ flat_map (now_text (rail_name board)) now = cc in same ∙ fault_text_is (rail_name board) chip reg applied now;
}

-- the chip and the register in it, and what stands behind them
pub behind_register : (board : Board) (words : List ℕ) (chip reg : ℕ) (rest : List ℕ) → chip < 2 ^ 8 → words ≡ spaced (decimal chip ∷ hex_text reg ∷ rest ∷ []) → (fault : IsFault board words) → rest ≡ decimal fault.applied ++ flat_map (now_text (rail_name board)) fault.now
behind_register board words chip reg rest small split fault =
    let tail = decimal fault.applied ++ flat_map (now_text (rail_name board)) fault.now in
    let one = split_once 32 (decimal chip) (hex_text reg ++ 32 ∷ rest) (decimal fault.chip) (hex_text fault.reg ++ 32 ∷ tail) (Lacks-decimal chip (omega arith)) (Lacks-decimal fault.chip (omega (arith, fault.small_chip))) (sym split ∙ fault.spelled) in
    (split_once 32 (hex_text reg) rest (hex_text fault.reg) tail (Lacks-hex_text reg) (Lacks-hex_text fault.reg) one.1).1

pub applied_told : (board : Board) (words : List ℕ) (chip reg : ℕ) (rest front left : List ℕ) → chip < 2 ^ 8 → words ≡ spaced (decimal chip ∷ hex_text reg ∷ rest ∷ []) → rest ≡ front ++ left → Lacks 32 front → IsTail 32 left → (fault : IsFault board words) → (front ≡ decimal fault.applied) × (left ≡ flat_map (now_text (rail_name board)) fault.now)
applied_told board words chip reg rest front left small split cut lacks ends fault =
    tail_same 32 front left (decimal fault.applied) (flat_map (now_text (rail_name board)) fault.now) lacks (Lacks-decimal fault.applied fault.small_applied) ends (nows_tail (rail_name board) fault.now) (sym cut ∙ behind_register board words chip reg rest small split fault)

-- a fault that was read so
pub fault_made : (board : Board) (kind : Told) (words rest front left : List ℕ) (chip reg applied : ℕ) (now : List (RailId × ℕ)) → words ≡ spaced (decimal chip ∷ hex_text reg ∷ rest ∷ []) → rest ≡ front ++ left → front ≡ decimal applied → left ≡ flat_map (now_text (rail_name board)) now → chip < 2 ^ 8 → reg < 2 ^ 8 → applied < 2 ^ 32 → All (FitsNow board) now → IsAnswer board kind (Fault chip reg applied now) (codes "fault" ∷ words ∷ [])
fault_made board kind words rest front left chip reg applied now split cut counted told small_chip small_reg small_applied rails =
    let e = fault_text_is (rail_name board) chip reg applied now in
    let inner : rest ≡ decimal applied ++ flat_map (now_text (rail_name board)) now = cut ∙ ap (λ f. f ++ left) counted ∙ ap (λ l. decimal applied ++ l) told in
    record {
      is = (small_chip, small_reg, small_applied, rails);
      spelled = ap (λ w. codes "fault" ∷ w ∷ []) (split ∙ ap (λ r. decimal chip ++ 32 ∷ (hex_text reg ++ 32 ∷ r)) inner ∙ sym e);
    }
