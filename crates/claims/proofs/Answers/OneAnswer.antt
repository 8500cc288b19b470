-- 01, How tight the promises are: "Show that no second answer fits". What that means, and the one law that shows it.
use mathlib.Core.Path.{◌≡◌, refl, sym, ap, ◌∙◌}

-- A promise has one answer: any two that meet it are equal.
abbrev pub OneAnswer : {A : Type 0} → (A → Type 0) → Type 0
OneAnswer {A} promise = (one other : A) → promise one → promise other → one ≡ other

-- The law. A promise that is an equation has one answer, where the answer can be given back from the side that speaks of it.
pub given_back : {A B : Type 0} (told : A → B) (back : B → A) → ((answer : A) → back (told answer) ≡ answer) → (value : B) → OneAnswer (λ answer. told answer ≡ value)
given_back told back same value one other this that = sym (same one) ∙ ap back (this ∙ sym that) ∙ same other

-- The plainest such side is the answer itself.
pub as_said : {A : Type 0} (value : A) → OneAnswer (λ answer. answer ≡ value)
as_said = given_back (λ answer. answer) (λ value. value) (λ answer. refl)
