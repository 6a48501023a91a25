-- Descriptions and tokens at the edges of the rules, each computed. Assumes nothing.
use Prim.Native.Nat.{ℕ, zero, suc}
use Prim.Native.String.{String}
use mathlib.Core.Path.{◌≡◌, refl}
use mathlib.Core.List.{List, [], ◌∷◌, map, ◌++◌}
use lib.IntN.{pos, negsuc}
use lib.ListN.{replicate}
use Rattle.paper.specs.Bytes.{bytes}
use Rattle.paper.specs.Answer.{Answer, ok, refused}
use Rattle.paper.specs.Syntax.{integer, decimal, string}
use Rattle.paper.specs.Tokens.{name, literal, mark, end}
use Rattle.paper.specs.Scanner.{scan, Scanned, token, fault}
use Rattle.paper.specs.Reader.{read}
use Rattle.paper.proofs.Open.{all}

abbrev scanned : String → Scanned
scanned s = scan (bytes s)

lexes : map scanned ("a-b$ c" ∷ "12;" ∷ "-12" ∷ "1.5e+3 " ∷ "1." ∷ "1e" ∷ "-" ∷ "\"a\\n\\101\\\"\"x" ∷ "\"a\n\"" ∷ "\"\\400\"" ∷ "9223372036854775808" ∷ "-9223372036854775808" ∷ "-9223372036854775809" ∷ "" ∷ "{" ∷ "#" ∷ "1-2" ∷ "007" ∷ "-0" ∷ "1e5" ∷ "1.5.2" ∷ [])
    ≡ token (name (bytes "a-b$")) 4 ∷ token (literal (integer (pos 12))) 2 ∷ token (literal (integer (negsuc 11))) 3 ∷ token (literal (decimal (bytes "1.5e+3"))) 6 ∷ fault 2 ∷ fault 2 ∷ fault 2
    ∷ token (literal (string (bytes "a\nA\""))) 11 ∷ fault 2 ∷ fault 2 ∷ fault 4 ∷ token (literal (integer (negsuc 9223372036854775807))) 20 ∷ fault 4 ∷ token end 0 ∷ token (mark 123) 1 ∷ fault 2 ∷ fault 2
    ∷ token (literal (integer (pos 7))) 3 ∷ token (literal (integer (pos 0))) 2 ∷ token (literal (decimal (bytes "1e5"))) 3 ∷ fault 2 ∷ []
unfolding all
lexes = refl

abbrev pub times : ℕ → List ℕ → List ℕ
times zero s = []
times (suc n) s = s ++ times n s

abbrev pub verdict : {A : Type 0} → Answer A → ℕ × ℕ
verdict (ok a) = (0, 0)
verdict (refused n p) = (n, p)

abbrev readv : List ℕ → ℕ × ℕ
readv s = verdict (read s)

grammar : map (λ s. readv (bytes s)) (
    "" ∷ "// x" ∷ "/* x" ∷ "a /*/ 1;" ∷ "a 1" ∷ "a 1; }" ∷ "a extends b" ∷ "a extends b, ;" ∷ "a extends {}" ∷ "a extends {};" ∷ "a [1,[2,\"x\"],DATA b:c, NULL];" ∷ "a [1,];" ∷ "a true:b;" ∷ "DATA 1;" ∷ "a: 1;" ∷ "a b c;" ∷ "a 1;#" ∷ "a extends {},{b 1;}, c;" ∷ "a extends c {}" ∷ [])
    ≡ (0, 0) ∷ (0, 0) ∷ (2, 0) ∷ (2, 2) ∷ (3, 3) ∷ (3, 5) ∷ (3, 11) ∷ (3, 13) ∷ (0, 0) ∷ (3, 12) ∷ (0, 0) ∷ (3, 5) ∷ (3, 6) ∷ (3, 0) ∷ (3, 3) ∷ (3, 4) ∷ (2, 4) ∷ (0, 0) ∷ (3, 12) ∷ []
unfolding all
grammar = refl

deep32 : readv (times 32 (bytes "a extends {") ++ times 32 (bytes "}")) ≡ (0, 0)
unfolding all
deep32 = refl

deep33 : readv (times 33 (bytes "a extends {") ++ times 33 (bytes "}")) ≡ (5, 362)
unfolding all
deep33 = refl

name255 : readv (replicate 255 97 ++ bytes " 1;") ≡ (0, 0)
unfolding all
name255 = refl

name256 : readv (replicate 256 97 ++ bytes " 1;") ≡ (6, 0)
unfolding all
name256 = refl

names32 : readv (times 31 (bytes "a:") ++ bytes "a 1;") ≡ (0, 0)
unfolding all
names32 = refl

names33 : readv (times 32 (bytes "a:") ++ bytes "a 1;") ≡ (6, 64)
unfolding all
names33 = refl
