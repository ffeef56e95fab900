-- What an end over std's readers and writers tells, across the calls that it makes again.
use Rattle.std.proofs.Common.{◌≡◌, ℕ, Bool, true, false, List, [], ◌++◌, Option, None, Some, sym, ap, ◌∙◌}
use Rattle.std.specs.Prelude.{Result, Ok, Err}
use Rattle.std.specs.Io.KnownBytes.{Keeps, Appends, Consumes, IsAtEnd}
use Rattle.std.specs.declared.io.Error.{Error}
use Rattle.hir_show_io.specs.declared.std_end.Attempt.TheVariants.{Done}
use Rattle.hir_show_io.specs.StdEnd.{ReadMeans, WriteMeans, unless_overrun}

pub Consumes-told : (overrun : Bool) (old mid new : Option (List ℕ)) (bytes : List ℕ) → Keeps old mid → Consumes mid new bytes → Consumes (unless_overrun overrun old) (unless_overrun overrun new) bytes
Consumes-told true old mid new bytes k c = tt
Consumes-told false None mid new bytes k c = tt
Consumes-told false (Some xs) None new bytes k c = absurd k
Consumes-told false (Some xs) (Some ys) None bytes k c = absurd c
Consumes-told false (Some xs) (Some ys) (Some zs) bytes k c = sym k ∙ c

pub Appends-suffix : (old mid new : Option (List ℕ)) (bytes : List ℕ) → Keeps old mid → Appends mid new bytes → Appends old new bytes
Appends-suffix None mid new bytes k c = tt
Appends-suffix (Some xs) None new bytes k c = absurd k
Appends-suffix (Some xs) (Some ys) None bytes k c = absurd c
Appends-suffix (Some xs) (Some ys) (Some zs) bytes k c = c ∙ ap (λ v. v ++ bytes) k

pub IsAtEnd-told : (overrun : Bool) (old mid new : Option (List ℕ)) → Keeps old mid → Consumes mid new [] → IsAtEnd new → IsAtEnd (unless_overrun overrun old)
IsAtEnd-told true old mid new k c e = tt
IsAtEnd-told false None mid new k c e = tt
IsAtEnd-told false (Some xs) None new k c e = absurd k
IsAtEnd-told false (Some xs) (Some ys) None k c e = absurd c
IsAtEnd-told false (Some xs) (Some ys) (Some zs) k c e = sym k ∙ c ∙ e

-- the count of an attempt that is done is that of the std call
pub read_done : (answer : Result ℕ Error) (left count : ℕ) → ReadMeans answer left (Done count) → answer ≡ Ok count
read_done (Ok n) left count h = ap Ok (sym h.0)
read_done (Err e) left count h = absurd h

pub write_done : (answer : Result ℕ Error) (asked count : ℕ) → WriteMeans answer asked (Done count) → answer ≡ Ok count
write_done (Ok n) asked count h = ap Ok (sym h.0)
write_done (Err e) asked count h = absurd h
