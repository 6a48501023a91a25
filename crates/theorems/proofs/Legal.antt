-- Theorem 4, legal: what is read is a legal block, so what translate gives is a well-formed step list of it; evaluation keeps names legal
-- and unique, and keeps the bounds. Assumes nothing.
pub mod Read
pub mod Names
pub mod Bounds
use Prim.Native.Nat.{ℕ}
use mathlib.Core.Path.{◌≡◌}
use mathlib.Core.List.{List, []}
use Rattle.paper.specs.Answer.{ok}
use Rattle.paper.specs.Syntax.{Name, Path, Block}
use Rattle.paper.specs.Reader.{read}
use Rattle.paper.specs.Store.{Store, put, bind}
use Rattle.paper.specs.Store as S
use Rattle.paper.specs.Meaning.{B⟦◌⟧, main}
use Rattle.paper.specs.WellFormed.{IsName, AreNames, IsValue, IsStore, IsBounded, IsBlock}
use Rattle.paper.specs.Operations.{translate}
use Read.{WellRead, read_well, Translated, translate_well}
use Names.{put_keeps, bind_kept, keeps}
use Bounds.{evaluates, mains}

pub record IsLegal : Type 0 where
  pub read : (source : List ℕ) (b : Block) → read source ≡ ok b → WellRead b
  pub listed : (source list : List ℕ) → translate source ≡ ok list → Translated source list
  -- document 002, Lemma 1, Lemma 2 and, for a block in any scope over any store, Theorem 2
  pub put : (s : Store) (n : Name) (v : S.Value) → IsName n → IsValue v → IsStore s → IsStore (put s n v)
  pub bind : (p : ℕ) (r : Path) (v : S.Value) (s t : Store) → AreNames r → IsValue v → IsStore s → bind p r v s ≡ ok t → IsStore t
  pub store : (b : Block) (ns : Path) (s t : Store) → IsBlock b → AreNames ns → IsStore s → B⟦ b ⟧ ns s ≡ ok t → IsStore t
  -- and within the bounds, for the whole table and for the main one
  pub bounds : (b : Block) (s t : Store) → IsBlock b → IsBounded s → B⟦ b ⟧ [] s ≡ ok t → IsBounded t
  pub main : (s c : Store) → IsBounded s → main s ≡ ok c → IsBounded c

pub legal : IsLegal
legal = record { read = read_well; listed = translate_well; put = put_keeps; bind = bind_kept; store = keeps; bounds = evaluates; main = mains }
