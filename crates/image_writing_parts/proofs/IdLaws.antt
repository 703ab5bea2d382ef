-- The bytes of a number, the low byte first, are the book's; and the head of an image in two pieces.
-- Assumes nothing.
use Rattle.std.proofs.Common.{ℕ, List, [], ◌∷◌, ◌≡◌, ◌∙◌, ap₂, subst, rules}
use Rattle.std.specs.Int.{w32, w64, to_le_bytes}
use Rattle.model.specs.Image.{four_bytes, eight_bytes}
use Rattle.model.specs.Memory.{base, digits, depth, node_count}
use Rattle.putting.specs.Put.{Put}
use Rattle.putting.proofs.Putting.{put_then}

pub four_le : (n : ℕ) → to_le_bytes w32 n ≡ four_bytes n
four_le n = search rules

pub eight_le : (n : ℕ) → to_le_bytes w64 n ≡ eight_bytes n
eight_le n = search rules

-- the settings and the number of nodes, put in two pieces
pub header_put : (s o p q : List ℕ) (v b d K n e g : ℕ) → b ≡ base s → d ≡ digits s → K ≡ depth s → n ≡ node_count s
    → Put o 0 (4 ∷ v ∷ b ∷ d ∷ []) p e → Put p e (K ∷ n ∷ []) q g
    → Put o 0 (4 ∷ v ∷ base s ∷ digits s ∷ depth s ∷ node_count s ∷ []) q g
header_put s o p q v b d K n e g eb ed eK en P Q =
    subst (λ (bs : List ℕ). Put o 0 bs q g)
    (ap₂ (λ (b d : ℕ). 4 ∷ v ∷ b ∷ d ∷ K ∷ n ∷ []) eb ed ∙ ap₂ (λ (K n : ℕ). 4 ∷ v ∷ base s ∷ digits s ∷ K ∷ n ∷ []) eK en)
    (put_then o 0 (4 ∷ v ∷ b ∷ d ∷ []) p e (K ∷ n ∷ []) q g P Q)
