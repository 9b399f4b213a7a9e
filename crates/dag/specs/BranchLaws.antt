-- Small steps that proofs of branching code share.
use Rattle.std.specs.Prelude.{Bool, true, false, cond, ◌&&◌, Option, Some, None, Ok, Err, ok_or, ◌≡◌, refl}
use Rattle.std.proofs.Common.{sym, ◌∙◌}

-- what a result is, where it is v and a definition equals it
pub told : {A : Type 0} {r d v : A} → r ≡ d → r ≡ v → d ≡ v
told e f = sym e ∙ f

-- a chain of tests: past one that fails, and into one that holds
pub skip : {A : Type 0} {t : Bool} {v y : A} (x : A) → t ≡ false → v ≡ y → v ≡ cond t x y
skip x p e = rw p e

pub into : {A : Type 0} {t : Bool} {v x : A} (y : A) → t ≡ true → v ≡ x → v ≡ cond t x y
into y p e = rw p e

-- three tests in a row, however they are paired
pub and_both : (a b c : Bool) → a && (b && c) ≡ (a && b) && c
and_both true b c = refl
and_both false b c = refl

-- what a value with a refusal in its absence was
pub none_of : {A E : Type 0} {d : Option A} {r e : E} → Err r ≡ ok_or d e → (d ≡ None) × (r ≡ e)
none_of {d = None} q = (refl, cc)
none_of {d = Some x} q = cc

pub some_of : {A E : Type 0} {d : Option A} {x : A} (e : E) → Ok x ≡ ok_or d e → Some x ≡ d
some_of {d = None} e q = cc
some_of {d = Some y} e q = cc
