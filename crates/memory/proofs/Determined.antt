-- Of each public function, any two results that its contract allows for the same arguments are one,
-- with the bytes of the slice that is lent. Assumes nothing.
use Rattle.paper.specs.Determines.{Determines, ◌&◌}
use Rattle.memory.proofs.bytes.byte.Reads as Byte
use Rattle.memory.proofs.bytes.clear.Reads as Clear
use Rattle.memory.proofs.bytes.copy.Reads as Copy
use Rattle.memory.proofs.bytes.slide.Reads as Slide
use Rattle.memory.proofs.bytes.part.Reads as Part
use Rattle.memory.proofs.number.get16.Reads as Get16
use Rattle.memory.proofs.number.get32.Reads as Get32
use Rattle.memory.proofs.number.get64.Reads as Get64
use Rattle.memory.proofs.number.put16.Reads as Put16
use Rattle.memory.proofs.number.put32.Reads as Put32
use Rattle.memory.proofs.number.put64.Reads as Put64
use Rattle.memory.proofs.place.fits.Reads as Fits

pub record Determined : Type 0 where
  pub byte : Determines Byte.Post (λ _ (s, (at, _)). s.now & at) λ _ r _. r
  pub clear : Determines Clear.Post (λ _ (s, _). s.now) λ _ _ (s, _). s.now
  pub copy : Determines Copy.Post (λ _ (dst, (at, (src, _))). dst.now & at & src.now) λ _ _ (dst, _). dst.now
  pub slide : Determines Slide.Post (λ _ (s, (from, (to, (n, _)))). s.now & from & to & n) λ _ _ (s, _). s.now
  pub part : Determines Part.Post (λ _ (s, (at, (len, _))). s.now & at & len) λ _ r _. r.now
  pub get16 : Determines Get16.Post (λ _ (s, (at, _)). s.now & at) λ _ r _. r
  pub get32 : Determines Get32.Post (λ _ (s, (at, _)). s.now & at) λ _ r _. r
  pub get64 : Determines Get64.Post (λ _ (s, (at, _)). s.now & at) λ _ r _. r
  pub put16 : Determines Put16.Post (λ _ (s, (at, (x, _))). s.now & at & x) λ _ _ (s, _). s.now
  pub put32 : Determines Put32.Post (λ _ (s, (at, (x, _))). s.now & at & x) λ _ _ (s, _). s.now
  pub put64 : Determines Put64.Post (λ _ (s, (at, (x, _))). s.now & at & x) λ _ _ (s, _). s.now
  pub fits : Determines Fits.Post (λ _ (size, (at, (n, _))). size & at & n) λ _ r _. r

pub determined : Determined
determined =
    record {
      byte = λ _ _ _ _ _ _ _ _ g e f. cc;
      clear = λ _ _ _ _ _ _ _ _ g e f. cc;
      copy = λ _ _ _ _ _ _ _ _ g e f. cc;
      slide = λ _ _ _ _ _ _ _ _ g e f. cc;
      part = λ _ _ _ _ _ _ _ _ g e f. cc;
      get16 = λ _ _ _ _ _ _ _ _ g e f. cc;
      get32 = λ _ _ _ _ _ _ _ _ g e f. cc;
      get64 = λ _ _ _ _ _ _ _ _ g e f. cc;
      put16 = λ _ _ _ _ _ _ _ _ g e f. cc;
      put32 = λ _ _ _ _ _ _ _ _ g e f. cc;
      put64 = λ _ _ _ _ _ _ _ _ g e f. cc;
      fits = λ _ _ _ _ _ _ _ _ g e f. cc;
    }
