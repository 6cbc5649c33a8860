-- Where a step tells nothing, nothing is added.
use Rattle.std.proofs.Common.{◌≡◌, List, [], ◌++◌, None, Option, sym, ap, ◌∙◌, append-nil}
use Rattle.jobcheck.specs.Commands.{listed}
use Rattle.jobcheck.specs.declared.findings.Heard.{Heard}

pub adds_none : (told : List Heard) (heard : Option Heard) → heard ≡ None → told ≡ told ++ listed heard
adds_none told heard none = sym (append-nil told) ∙ ap (λ (h : Option Heard). told ++ listed h) (sym none)
