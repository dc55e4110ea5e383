-- Colours with equal channels are equal, and what a flag that is false denies.
use Rattle.std.proofs.Common.{◌≡◌, ◌↔◌, Bool, true, false, sym, ◌∙◌, true≢false}
use Rattle.colours.specs.declared.Rgb.{Rgb}

pub rgb_equal : (a b : Rgb) → a.red ≡ b.red → a.green ≡ b.green → a.blue ≡ b.blue → a ≡ b
rgb_equal a b r g l = λ k. record { red = r k; green = g k; blue = l k }

-- where a flag says that something holds, its negation says that it does not
pub denied : {A : Type 0} (flag : Bool) → (flag ≡ true) ↔ A → flag ≡ false → A → ⊥
denied flag says t a = true≢false (sym (says.1 a) ∙ t)
