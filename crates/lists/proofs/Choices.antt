-- Cases of a test, and choices.
use mathlib.Core.Path.{◌≡◌, refl}
use mathlib.Core.Bool.{Bool, true, false, cond}

-- What holds where a test passes and where it fails holds.
pub by-test : {G : Type 0} (b : Bool) → (b ≡ true → G) → (b ≡ false → G) → G
by-test true f g = f refl
by-test false f g = g refl

-- What holds of both choices holds of the choice; a function of it is the choice of its values.
pub either : {A : Type 0} (P : A → Type 0) (b : Bool) {x y : A} → P x → P y → P (cond b x y)
either P true p q = p
either P false p q = q

pub ap-cond : {A B : Type 0} (f : A → B) (b : Bool) (x y : A) → f (cond b x y) ≡ cond b (f x) (f y)
ap-cond f true x y = refl
ap-cond f false x y = refl
