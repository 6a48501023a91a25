-- The abstract syntax (document 002, Definition 3; document 01, "Grammar"). A description is a block. Assumes nothing.
use Rattle.std.specs.Prelude.{ℕ, Bool, List, ℤ}

-- I: a name is its bytes.  R ::= (I)⁺: a reference is a path of names.
abbrev pub Name : Type 0
Name = List ℕ

abbrev pub Path : Type 0
Path = List Name

infixr 20 ◌∷ⱽ◌
infixr 20 ◌∷ᴮ◌
-- BV ::= Bool | Num | Str | DR | Vec | Null;  Vec ::= (BV)*
-- Document 01 has integers and decimals for Num. Of a decimal: "Kept as its text."
mutual
  pub data Basic : Type 0 where
    boolean : Bool → Basic
    null : Basic
    integer : ℤ → Basic
    decimal : List ℕ → Basic
    string : List ℕ → Basic
    reference : Path → Basic
    vector : Basics → Basic

  pub data Basics : Type 0 where
    εⱽ : Basics
    ◌∷ⱽ◌ : Basic → Basics → Basics

-- B ::= A B | ε;  A ::= R V;  V ::= BV | LR | P;  P ::= R P | B P | ε
-- Each step's place in the source goes with it, an ℕ: "the first byte of the target for make and set, of the reference for take and link".
mutual
  pub data Block : Type 0 where
    εᴮ : Block
    ◌∷ᴮ◌ : Statement → Block → Block

  pub data Statement : Type 0 where
    assign : Path → Value → Statement

  pub data Value : Type 0 where
    basic : ℕ → Basic → Value
    link : ℕ → Path → Value
    extends : ℕ → Prototypes → Value

  pub data Prototypes : Type 0 where
    εᴾ : Prototypes
    named : ℕ → Path → Prototypes → Prototypes
    block : Block → Prototypes → Prototypes
