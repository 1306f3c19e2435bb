-- The lines of the writes that a row keeps.
use Rattle.std.proofs.Common.{ℕ, ◌≡◌, ◌≢◌, ◌^◌, ◌<◌, List, [], ◌∷◌, ◌++◌, codes, decimal, drop, refl, sym, ap, ◌∙◌, arith, append_assoc}
use Rattle.board.specs.declared.board.Board.{Board}
use Rattle.board.specs.declared.write.Write.{Write}
use Rattle.rows.specs.Fits.{FitsWrite}
use Rattle.rows.specs.Row.{write_text}
use Rattle.rows.specs.Words.{spaced, hex_text}
use Rattle.rows.proofs.Cuts.{Dense-decimal, Dense-hex_text, Lacks-dense, Lacks-spaced, dense_by_test}
use Rattle.rows.proofs.Separators.{Lacks, split_once, not_split}

abbrev pub write_line : Write → List ℕ
write_line write = spaced (codes "+" ∷ decimal write.chip ∷ hex_text write.reg ∷ hex_text write.mask ∷ hex_text write.bits ∷ [])

pub line_lacks : (write : Write) → write.chip < 2 ^ 8 → Lacks 10 (write_line write)
line_lacks write small =
    let hex = λ (n : ℕ). Lacks-dense 10 (hex_text n) (omega arith) (Dense-hex_text n) in
    Lacks-spaced 10 (λ same. absurd (omega (arith, same))) (codes "+" ∷ decimal write.chip ∷ hex_text write.reg ∷ hex_text write.mask ∷ hex_text write.bits ∷ [])
    (Lacks-dense 10 (codes "+") (omega arith) (dense_by_test (codes "+") refl), (Lacks-dense 10 (decimal write.chip) (omega arith) (Dense-decimal write.chip (omega arith)), (hex write.reg, (hex write.mask, (hex write.bits, tt)))))

-- a line with its newline, in front of a text
pub write_front : (write : Write) (more : List ℕ) → write_text write ++ more ≡ write_line write ++ 10 ∷ more
write_front write more = append_assoc (write_line write) (10 ∷ []) more

module _ (board : Board) (text line rest : List ℕ) (split : text ≡ line ++ 10 ∷ rest) (lacks : Lacks 10 line) where
  pub line_told : (write : Write) (more : List ℕ) → FitsWrite board write → text ≡ write_text write ++ more → (line ≡ write_line write) × (rest ≡ more)
  line_told write more fits same = split_once 10 line rest (write_line write) more lacks (line_lacks write fits.1) (sym split ∙ same ∙ write_front write more)

pub no_line : (board : Board) (text : List ℕ) → Lacks 10 text → (write : Write) (more : List ℕ) → FitsWrite board write → text ≢ write_text write ++ more
no_line board text lacks write more fits same = not_split 10 text (write_line write) more lacks (same ∙ write_front write more)

-- what stands behind the line of a write is told
pub write_cut : (board : Board) (write other : Write) (next more : List ℕ) → FitsWrite board write → FitsWrite board other → write_text write ++ next ≡ write_text other ++ more → next ≡ more
write_cut board write other next more fits fits' same =
    (line_told board (write_text write ++ next) (write_line write) next (write_front write next) (line_lacks write fits.1) other more fits' same).1

-- what stands behind the plus sign
pub behind_sign : (line words : List ℕ) → line ≡ codes "+ " ++ words → (write : Write) → line ≡ write_line write → words ≡ decimal write.chip ++ 32 ∷ (hex_text write.reg ++ 32 ∷ spaced (hex_text write.mask ∷ hex_text write.bits ∷ []))
behind_sign line words split write same = ap (drop 2) (sym split ∙ same)
