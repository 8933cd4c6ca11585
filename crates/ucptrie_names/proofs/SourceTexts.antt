-- Texts of source, piece by piece.
use Rattle.std.proofs.Common.{◌≡◌, ℕ, List, ◌++◌, Result, Ok, Err, append_assoc, ap, ◌∙◌}
use Rattle.std.specs.Prelude.{OnOk, is_ok, if◌then◌else◌}

-- two pieces are appended, the last one if there is memory
pub joined-2 : {T E : Type 0} (r : Result T E) (old one two a b : List ℕ) → one ≡ old ++ a → OnOk r (two ≡ one ++ b)
    → OnOk r (two ≡ old ++ (a ++ b))
joined-2 (Ok done) old one two a b first second = second ∙ (ap (λ t. t ++ b) first ∙ append_assoc old a b)
joined-2 (Err fault) old one two a b first second = tt

joined : (old one two a b : List ℕ) → one ≡ old ++ a → two ≡ one ++ b → two ≡ old ++ (a ++ b)
joined old one two a b first second = second ∙ (ap (λ t. t ++ b) first ∙ append_assoc old a b)

-- five pieces
pub joined-5 : {T E : Type 0} (r : Result T E) (old one two three four five a b c d e : List ℕ) → one ≡ old ++ a → two ≡ one ++ b
    → three ≡ two ++ c → four ≡ three ++ d → OnOk r (five ≡ four ++ e) → OnOk r (five ≡ old ++ ((((a ++ b) ++ c) ++ d) ++ e))
joined-5 r old one two three four five a b c d e first second third fourth last =
    let two_is = joined old one two a b first second in
    let three_is = joined old two three (a ++ b) c two_is third in
    joined-2 r old four five (((a ++ b) ++ c) ++ d) e (joined old three four ((a ++ b) ++ c) d three_is fourth) last

-- the last one is a text
pub joined-5-text : {T E : Type 0} (r : Result T E) (old one two three four five a b c d e : List ℕ) → one ≡ old ++ a → two ≡ one ++ b
    → three ≡ two ++ c → four ≡ three ++ d → five ≡ (if is_ok r then four ++ e else four)
    → OnOk r (five ≡ old ++ ((((a ++ b) ++ c) ++ d) ++ e))
joined-5-text {E = E} (Ok done) old one two three four five a b c d e first second third fourth last =
    joined-5 {E = E} (Ok done) old one two three four five a b c d e first second third fourth last
joined-5-text (Err fault) old one two three four five a b c d e first second third fourth last = tt
