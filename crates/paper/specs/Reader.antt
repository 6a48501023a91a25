-- The reader (document 01, "Grammar"): from the bytes of a description to its block, or to the leftmost of 2 to 6.
-- A reader is given where it stands in the source, and gives what it read and where it then stands.
-- The number f that readers count down bounds how deep the calls go: 2 * (length of the rest) + 2 is always enough.
-- The number d is how many more openings are allowed. Assumes nothing.
use Rattle.std.specs.Prelude.{ℕ, zero, suc, ◌+◌, ◌*◌, ◌-◌, Bool, true, false, List, [], ◌∷◌, length, leb, ltb}
use Prim.Native.Char.{Char}
use Prim.Native.String.{String}
use Rattle.paper.specs.Bytes.{bytes, same, when◌then◌else◌}
use Rattle.paper.specs.Answer.{Answer, ok, refused, demand, ◌>>=◌}
use Rattle.paper.specs.Syntax.{Path, Basic, boolean, null, reference, vector, Basics, εⱽ, ◌∷ⱽ◌, Block, εᴮ, ◌∷ᴮ◌, assign, Value, basic, link, extends, Prototypes, εᴾ, named, block}
use Rattle.paper.specs.Tokens.{Token, name, literal, mark, end, is_name, is_mark, Here}
use Rattle.paper.specs.Scanner.{next}

-- ---- marks, words and references

-- the token is this word; is the end; and a name's bytes
unfoldable pub is_word : String → Token → Bool
is_word w t = elim t [ name n ↦ same n (bytes w) | literal b ↦ false | mark m ↦ false | end ↦ false ]

unfoldable pub is_end : Token → Bool
is_end t = elim t [ name n ↦ false | literal b ↦ false | mark m ↦ false | end ↦ true ]

unfoldable pub spelling : Token → List ℕ
spelling t = elim t [ name n ↦ n | literal b ↦ [] | mark m ↦ [] | end ↦ [] ]

-- the next token is this mark; is this word: "token, or the end, cannot continue", 3
unfoldable pub expect : Char → Here → Answer Here
expect c at = do
  (t, h, after) ← next at
  _ ← demand (is_mark c t) 3 h.place
  ok after

unfoldable pub expect_word : String → Here → Answer Here
expect_word w at = do
  (t, h, after) ← next at
  _ ← demand (is_word w t) 3 h.place
  ok after

-- "Reference: 1 to 32 names joined by `:`", of which k more are allowed; "33rd name of a reference", 6
unfoldable pub names : ℕ → Here → Answer (Path × Here)
names zero at = do
  (t, h, after) ← next at
  _ ← demand (is_name t) 3 h.place
  refused 6 h.place
names (suc k) at = do
  (t, h, after) ← next at
  _ ← demand (is_name t) 3 h.place
  (u, _, _) ← next after
  when is_mark ":" u
      then (do
        at ← expect ":" after
        (ns, at) ← names k at
        ok (spelling t ∷ ns, at))
      else ok (spelling t ∷ [], after)

unfoldable pub path : Here → Answer (Path × Here)
path = names 32

-- ---- basics

-- "Basic: true, false, NULL, integer, decimal, string, `DATA` reference": one that begins with the word t
unfoldable pub word : Token → Here → Here → Answer (Basic × Here)
word t h after =
    when is_word "true" t then ok (boolean true, after) else
    when is_word "false" t then ok (boolean false, after) else
    when is_word "NULL" t then ok (null, after) else
    when is_word "DATA" t then (do (r, at) ← path after; ok (reference r, at)) else
    refused 3 h.place

unfoldable mutual
  -- "or `[` basics joined by `,` `]`, possibly empty"; "a 33rd opening", 5
  pub basic_at : ℕ → ℕ → Here → Answer (Basic × Here)
  basic_at zero d at = refused 0 0
  basic_at (suc f) d at = do
    (t, h, after) ← next at
    elim t [
      | name n ↦ word (name n) h after
      | literal b ↦ ok (b, after)
      | mark m ↦ do
        at ← expect "[" at
        _ ← demand (ltb 0 d) 5 h.place
        (u, _, closed) ← next at
        when is_mark "]" u then ok (vector εⱽ, closed) else (do
          (bs, at) ← basics f (d - 1) at
          ok (vector bs, at))
      | end ↦ refused 3 h.place
    ]

  -- basics joined by `,` up to `]`
  pub basics : ℕ → ℕ → Here → Answer (Basics × Here)
  basics zero d at = refused 0 0
  basics (suc f) d at = do
    (b, at) ← basic_at f d at
    (t, _, _) ← next at
    when is_mark "," t
        then (do
          at ← expect "," at
          (bs, at) ← basics f d at
          ok (b ∷ⱽ bs, at))
        else (do
          at ← expect "]" at
          ok (b ∷ⱽ εⱽ, at))

-- ---- statements

unfoldable mutual
  -- "Description: statements. Statement: reference, value."
  pub statements : ℕ → ℕ → Here → Answer (Block × Here)
  statements zero d at = refused 0 0
  statements (suc f) d at = do
    (t, h, _) ← next at
    when is_name t
        then (do
          (r, at) ← path at
          (v, at) ← value f d h.place at
          (b, at) ← statements f d at
          ok (assign r v ∷ᴮ b, at))
        else ok (εᴮ, at)

  -- "one of three sorts of value: basic and `;`; a reference (link) and `;`; or `extends` and one or more prototypes"; the target stands at p
  pub value : ℕ → ℕ → ℕ → Here → Answer (Value × Here)
  value zero d p at = refused 0 0
  value (suc f) d p at = do
    (t, h, _) ← next at
    when is_word "extends" t
        then (do
          at ← expect_word "extends" at
          (ps, at) ← prototypes f d at
          ok (extends p ps, at))
        else when is_name t then (do
          (r, at) ← path at
          at ← expect ";" at
          ok (link h.place r, at))
        else (do
          (b, at) ← basic_at f d at
          at ← expect ";" at
          ok (basic p b, at))

  -- "A prototype is a reference or `{` statements `}`. After a last prototype that is a reference stands `;`, after a block none."
  pub prototypes : ℕ → ℕ → Here → Answer (Prototypes × Here)
  prototypes zero d at = refused 0 0
  prototypes (suc f) d at = do
    (t, h, _) ← next at
    when is_name t
        then (do
          (r, at) ← path at
          (u, _, _) ← next at
          when is_mark "," u
              then (do
                at ← expect "," at
                (ps, at) ← prototypes f d at
                ok (named h.place r ps, at))
              else (do
                at ← expect ";" at
                ok (named h.place r εᴾ, at)))
        else (do
          at ← expect "{" at
          _ ← demand (ltb 0 d) 5 h.place
          (b, at) ← statements f (d - 1) at
          at ← expect "}" at
          (u, _, _) ← next at
          when is_mark "," u
              then (do
                at ← expect "," at
                (ps, at) ← prototypes f d at
                ok (block b ps, at))
              else ok (block b εᴾ, at))

-- ---- the whole description

-- "description over 32,768 bytes", 1; then the leftmost of 2 to 6; 3 for a token after the last statement
unfoldable pub read : List ℕ → Answer Block
read source = do
  _ ← demand (leb (length source) 32768) 1 0
  (b, at) ← statements (2 * length source + 2) 32 (record { place = 0; rest = source })
  (t, h, _) ← next at
  _ ← demand (is_end t) 3 h.place
  ok b
