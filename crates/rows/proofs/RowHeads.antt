-- What the line of a row has in front of its answer, told in one way.
use Rattle.std.proofs.Common.{ℕ, ◌≡◌, ◌≢◌, ◌+◌, ◌^◌, ◌<◌, List, [], ◌∷◌, ◌++◌, codes, decimal, sym, ap, ◌∙◌, arith}
use Rattle.std.proofs.lemmas.Fmt.{decimal_injective}
use Rattle.board.specs.declared.board.Board.{Board}
use Rattle.board.specs.declared.rail_id.RailId.{RailId}
use Rattle.board.specs.Valid.{HasNames}
use Rattle.rows.specs.declared.call.Call.{Call}
use Rattle.rows.specs.CallText.{call_text}
use Rattle.rows.specs.Reading.{IsCall, NameLacks}
use Rattle.rows.specs.Row.{rail_name}
use Rattle.rows.specs.RowLine.{spaces, first_word, arity, IsCallOn, IsHead}
use Rattle.rows.specs.Words.{spaced}
use Rattle.rows.proofs.BoardCalls.{call_name_lacks}
use Rattle.rows.proofs.CallFronts.{call_front, nth_same, spaces-append}
use Rattle.rows.proofs.Separators.{Lacks, split_once}
use Rattle.rows.proofs.Spaces.{Lacks-decimal, first_differs, second_differs}

-- two numbers in front of a text, told apart from others
module _ (line first others : List ℕ) (split : line ≡ first ++ 32 ∷ others) (la : Lacks 32 first) (m n : ℕ) (more : List ℕ) (small : m < 2 ^ 16) where
  lm : Lacks 32 (decimal m)
  lm = Lacks-decimal m (omega arith)

  pub others_differ : others ≢ decimal n ++ 32 ∷ more → line ≢ spaced (decimal m ∷ decimal n ∷ more ∷ [])
  others_differ apart = second_differs line first others (decimal m) (decimal n ++ 32 ∷ more) split la lm apart

  pub worker_differs : first ≢ decimal m → line ≢ spaced (decimal m ∷ decimal n ∷ more ∷ [])
  worker_differs apart = first_differs line first others (decimal m) (decimal n ++ 32 ∷ more) split la lm apart

-- the call in front of a text, by the number of its words
module _ (text front rest : List ℕ) (split : text ≡ front ++ 32 ∷ rest) (count : spaces front + 1 ≡ arity (first_word text)) where
  pub front_is : (name : RailId → List ℕ) (call : Call) (more : List ℕ) → IsCall call → NameLacks 32 name call → text ≡ call_text name call ++ 32 ∷ more → (front ≡ call_text name call) × (rest ≡ more)
  front_is name call more is named same =
      let told = call_front name call more text is named same in
      nth_same front rest (call_text name call) more (omega arith) (sym split ∙ same)

pub front_absent : (text : List ℕ) → spaces text < arity (first_word text) → (name : RailId → List ℕ) (call : Call) (more : List ℕ) → IsCall call → NameLacks 32 name call → text ≢ call_text name call ++ 32 ∷ more
front_absent text few name call more is named same =
    let told = call_front name call more text is named same in
    let all = ap spaces same ∙ spaces-append (call_text name call) (32 ∷ more) in
    omega arith

-- what stands behind the numbers of a row
module _ (board : Board) (names : HasNames board) (line : List ℕ) (worker number : ℕ) (rest : List ℕ) (narrow : worker < 2 ^ 16) (small : number < 2 ^ 32) (split : line ≡ spaced (decimal worker ∷ decimal number ∷ rest ∷ [])) where
  pub behind : (w n : ℕ) (call : Call) (answer : List ℕ) → IsHead board line w n call answer → (worker ≡ w) × (number ≡ n) × (rest ≡ spaced (call_text (rail_name board) call ∷ codes "->" ∷ answer ∷ []))
  behind w n call answer head =
      let tail = spaced (call_text (rail_name board) call ∷ codes "->" ∷ answer ∷ []) in
      let one = split_once 32 (decimal worker) (decimal number ++ 32 ∷ rest) (decimal w) (decimal n ++ 32 ∷ tail) (Lacks-decimal worker (omega arith)) (Lacks-decimal w (omega (arith, head.small_worker))) (sym split ∙ head.spelled) in
      let two = split_once 32 (decimal number) rest (decimal n) tail (Lacks-decimal number small) (Lacks-decimal n head.small_number) one.1 in
      (decimal_injective worker w (omega arith) (omega (arith, head.small_worker)) one.0, decimal_injective number n (omega arith) (omega (arith, head.small_number)) two.0, two.1)

  -- the call and the answer in it
  pub call_behind : (call answer : List ℕ) → rest ≡ spaced (call ∷ codes "->" ∷ answer ∷ []) → spaces call + 1 ≡ arity (first_word rest) → (w n : ℕ) (other : Call) (others : List ℕ) → IsHead board line w n other others → (call ≡ call_text (rail_name board) other) × (answer ≡ others)
  call_behind call answer cut count w n other others head =
      let here = behind w n other others head in
      let front = front_is rest call (codes "->" ++ 32 ∷ answer) cut count (rail_name board) other (codes "->" ++ 32 ∷ others) head.is (call_name_lacks 32 (omega arith) board names other) here.2 in
      (front.0, let same : codes "->" ++ 32 ∷ answer ≡ codes "->" ++ 32 ∷ others = front.1 in cc)

  pub no_answer : ((name : RailId → List ℕ) (call : Call) (answer : List ℕ) → IsCall call → NameLacks 32 name call → rest ≢ spaced (call_text name call ∷ codes "->" ∷ answer ∷ [])) → (w n : ℕ) (call : Call) (answer : List ℕ) → ¬ IsHead board line w n call answer
  no_answer none w n call answer head =
      none (rail_name board) call answer head.is (call_name_lacks 32 (omega arith) board names call) (behind w n call answer head).2

  pub no_call : (text answer : List ℕ) → rest ≡ spaced (text ∷ codes "->" ∷ answer ∷ []) → spaces text + 1 ≡ arity (first_word rest) → ((call : Call) → ¬ IsCallOn board call text) → (w n : ℕ) (call : Call) (others : List ℕ) → ¬ IsHead board line w n call others
  no_call text answer cut count none w n call others head =
      none call (record { is = head.is; rail = head.rail; spelled = (call_behind text answer cut count w n call others head).0 })
