-- What the readers of references answer, by cases. Assumes nothing.
use Rattle.std.specs.Prelude.{ℕ, ◌+◌, ◌≤◌, ◌<◌, ◌≡◌, true, false, List, length, Result, Ok, Err, Option, Some, None}
use Rattle.paper.specs.Answer.{ok}
use Rattle.paper.specs.Syntax.{Path}
use Rattle.paper.specs.Tokens.{Token, is_name}
use Rattle.paper.specs.Scanner.{next}
use Rattle.paper.specs.Reader.{path, names}
use Rattle.paper.specs.Layout.{path_text, names_text}
use Rattle.grammar.specs.Places.{here, Stood}
use Rattle.refusal.specs.declared.Refusal.{Refusal}
use Rattle.grammar.specs.Refusals.{Refuses}
use Rattle.grammar.specs.declared.path.Path.{Path as Read}
use Rattle.grammar.specs.declared.path.Reference.{Reference}

-- of k more names those at `at` are read, up to e; their text has z bytes after the y before it
pub record NamesSeen (k : ℕ) (s : List ℕ) (at y e z : ℕ) : Type 0 where
  pub spelt : Path
  pub is : names k (here s at) ≡ ok (spelt, here s e)
  pub size : z ≡ y + length (names_text spelt)
  pub ahead : at < e
  pub within : e ≤ length s
  pub light : z + at + 1 ≤ y + e + 2

abbrev pub NamesIs : ℕ → List ℕ → ℕ → ℕ → Result Read Refusal → Type 0
NamesIs k s at y (Ok r) = NamesSeen k s at y r.next r.size
NamesIs k s at y (Err e) = Refuses (names k (here s at)) e

-- a path is read at `at`, up to e; its text has z bytes
pub record PathSeen (s : List ℕ) (at e z : ℕ) : Type 0 where
  pub spelt : Path
  pub is : path (here s at) ≡ ok (spelt, here s e)
  pub size : z ≡ length (path_text spelt)
  pub ahead : at < e
  pub within : e ≤ length s
  pub light : z + at ≤ e + 2

abbrev pub PathIs : List ℕ → ℕ → Result Read Refusal → Type 0
PathIs s at (Ok r) = PathSeen s at r.next r.size
PathIs s at (Err e) = Refuses (path (here s at)) e

-- a name stands next, at p, and a path is read there
pub record RefSeen (s : List ℕ) (at p e z : ℕ) : Type 0 where
  pub token : Token
  pub stood : Stood s at token p
  pub named : is_name token ≡ true
  pub whole : PathSeen s at e z

-- what stands next is no name
pub record NoName (s : List ℕ) (at : ℕ) : Type 0 where
  pub token : Token
  pub place : ℕ
  pub stood : Stood s at token place
  pub other : is_name token ≡ false

-- there is no token, or there is a name and no path
pub data RefFault (s : List ℕ) (at : ℕ) (e : Refusal) : Type 0 where
  no_token : Refuses (next (here s at)) e → RefFault s at e
  no_path : {t : Token} {q : ℕ} → Stood s at t q → is_name t ≡ true → Refuses (path (here s at)) e → RefFault s at e

abbrev pub RefIs : List ℕ → ℕ → Result (Option Reference) Refusal → Type 0
RefIs s at (Ok (Some r)) = RefSeen s at r.place r.next r.size
RefIs s at (Ok None) = NoName s at
RefIs s at (Err e) = RefFault s at e
