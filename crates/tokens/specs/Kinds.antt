-- A token as the code's kinds. Assumes nothing.
use Rattle.std.specs.Prelude.{ℕ, List, [], ◌∷◌, length}
use Rattle.paper.specs.Bytes.{bytes, same, when◌then◌else◌}
use Rattle.paper.specs.Syntax.{Basic, boolean, null, integer, decimal, string, reference, vector}
use Rattle.paper.specs.Tokens.{Token, name, literal, mark, end}
use Rattle.paper.specs.Layout.{complement}
use Rattle.tokens.specs.declared.Kind.{Kind}
use Rattle.tokens.specs.declared.Kind.TheVariants as kinds
use Rattle.tokens.specs.declared.names.Word.{Word}
use Rattle.tokens.specs.declared.names.Word.TheVariants.{Extends, Data, Null, True, False, Root, Parent, This, Attrib, Lazy, Host, Process, Property, Iproperty}

-- how each of the reserved words is spelt
abbrev pub spelling : Word → List ℕ
spelling Extends = bytes "extends"
spelling Data = bytes "DATA"
spelling Null = bytes "NULL"
spelling True = bytes "true"
spelling False = bytes "false"
spelling Root = bytes "ROOT"
spelling Parent = bytes "PARENT"
spelling This = bytes "THIS"
spelling Attrib = bytes "ATTRIB"
spelling Lazy = bytes "LAZY"
spelling Host = bytes "HOST"
spelling Process = bytes "PROCESS"
spelling Property = bytes "PROPERTY"
spelling Iproperty = bytes "IPROPERTY"

-- all of them, as paper's `reserved` lists them
abbrev pub words : List Word
words =
    Extends ∷ Data ∷ Null ∷ True ∷ False ∷ Root ∷ Parent ∷ This ∷ Attrib ∷ Lazy ∷ Host ∷ Process ∷ Property ∷ Iproperty ∷ []

-- a name is the first of these words that is spelt so; if none is, it is a name
unfoldable pub named : List Word → List ℕ → Kind
named [] n = kinds.Name
named (w ∷ ws) n = when same n (spelling w) then kinds.Word w else named ws n

-- an integer is its 64 bits, a string the number of its bytes; no other basic is a token
unfoldable pub literal_kind : Basic → Kind
literal_kind b =
    elim b [
      | boolean x ↦ kinds.End
      | null ↦ kinds.End
      | integer z ↦ kinds.Integer (complement z)
      | decimal t ↦ kinds.Decimal
      | string t ↦ kinds.Text (length t)
      | reference r ↦ kinds.End
      | vector bs ↦ kinds.End
    ]

unfoldable pub kind_of : Token → Kind
kind_of t = elim t [ name n ↦ named words n | literal b ↦ literal_kind b | mark m ↦ kinds.Mark m | end ↦ kinds.End ]
