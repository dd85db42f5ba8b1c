use Rattle.std.proofs.Common.{rules, ◌≡◌, sym, subst}
use Rattle.query_code.proofs.UpgradeFacts.{upgraded_has_file}
use Rattle.query_code.specs.QueryFile.{file}
use Rattle.query_code.specs.declared.program.Parts.{Parts}
use Rattle.query_code.proofs.upgrading.upgrade.Goals as goal

pub invariant_of-result : goal.invariant_of-result
invariant_of-result c =
    let parts = c.args.program.now.parts in
    let output : c.in_ok-output_again.field-0 ≡ parts.output = Prim.search rules in
    let code : c.in_ok-code_again.field-0 ≡ parts.code = Prim.search rules in
    record {
      has_file =
          subst (λ (q : Parts). ∥ file.fits q ∥₁)
          (λ i. record {
            bounds = sym c.bounds_of_second.ensures i;
            mode = parts.mode;
            output = sym output i;
            code = sym code i;
          }) (upgraded_has_file parts c.args.program.now.has_file);
    }
