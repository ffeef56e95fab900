-- That a test of options that looks at what a function reads of their values decides whether that is the same.
use Rattle.std.proofs.Common.{◌≡◌, Bool, Option, Some, None, refl}
use Rattle.std.specs.Bool.{Decides}
use Rattle.std.specs.Option.{option_eq, option_map}

-- options of what is read by a function
pub read_options_decide : {B X : Type 0} {E : X → X → Bool} (read : B → X) → ((x y : X) → Decides (E x y) (x ≡ y)) → (o p : Option B) → Decides (option_eq (λ a b. E (read a) (read b)) o p) (option_map read o ≡ option_map read p)
read_options_decide read decides None None = (λ h. refl, λ e. refl)
read_options_decide read decides None (Some b) = (λ h. absurd (cc), λ e. absurd (cc))
read_options_decide read decides (Some a) None = (λ h. absurd (cc), λ e. absurd (cc))
read_options_decide read decides (Some a) (Some b) =
    let at_these = decides (read a) (read b) in
    (λ h i. Some (at_these.0 h i), λ e. at_these.1 (cc))
