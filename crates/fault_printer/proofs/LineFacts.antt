-- The parts of a line, one behind the other.
use Rattle.std.proofs.Common.{◌≡◌, List, ℕ, [], ◌++◌, codes, sym, ap, append_assoc, ◌∙◌}
use Rattle.std.proofs.lemmas.List.{append-nil}
use Rattle.bean_base.specs.declared.fault.Fault.{Fault}
use Rattle.bean_base.specs.declared.fault.FaultKind.TheVariants.{BadToken}
use Rattle.fault_printer.specs.Lines.{line_by}

-- it stands where there is none
abbrev pub no_fault : Fault
no_fault = record { kind = BadToken; place = record { file = 0; line = 0 } }

grouped : (a b c d e f : List ℕ) → a ++ (b ++ (c ++ (d ++ (e ++ (f ++ []))))) ≡ a ++ b ++ c ++ d ++ e ++ f
grouped a b c d e f =
    sym (append_assoc a b (c ++ (d ++ (e ++ (f ++ [])))))
    ∙ sym (append_assoc (a ++ b) c (d ++ (e ++ (f ++ []))))
    ∙ sym (append_assoc (a ++ b ++ c) d (e ++ (f ++ [])))
    ∙ sym (append_assoc (a ++ b ++ c ++ d) e (f ++ []))
    ∙ ap (λ l. a ++ b ++ c ++ d ++ e ++ l) (append-nil f)

pub line_is : (name number text : List ℕ) (a b c d e f : List ℕ) → a ≡ name → b ≡ codes ":"
    → c ≡ number → d ≡ codes ": " → e ≡ text → f ≡ codes "\n"
    → a ++ (b ++ (c ++ (d ++ (e ++ (f ++ []))))) ≡ line_by name number text
line_is name number text a b c d e f is_name colon is_number blank is_text feed =
    grouped a b c d e f
    ∙ ap (λ l. l ++ b ++ c ++ d ++ e ++ f) is_name
    ∙ ap (λ l. name ++ l ++ c ++ d ++ e ++ f) colon
    ∙ ap (λ l. name ++ codes ":" ++ l ++ d ++ e ++ f) is_number
    ∙ ap (λ l. name ++ codes ":" ++ number ++ l ++ e ++ f) blank
    ∙ ap (λ l. name ++ codes ":" ++ number ++ codes ": " ++ l ++ f) is_text
    ∙ ap (λ l. name ++ codes ":" ++ number ++ codes ": " ++ text ++ l) feed
