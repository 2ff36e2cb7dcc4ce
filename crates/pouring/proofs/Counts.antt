-- Counts of faults over several calls.
use Rattle.std.proofs.Common.{◌∙◌, le_trans}
use Rattle.bnd_io.specs.Files.{FilesState, Continues, NoFault}

-- no count fell
pub continues_on : (a b c : FilesState) → Continues a b → Continues b c → Continues a c
continues_on a b c h k = record {
  open_faults = λ name. le_trans (h.open_faults name) (k.open_faults name);
  read_faults = λ name. le_trans (h.read_faults name) (k.read_faults name);
  told = k.told ∙ h.told;
}

-- no count rose
pub no_fault_on : (a b c : FilesState) → NoFault a b → NoFault b c → NoFault a c
no_fault_on a b c h k = record { open_faults = λ name. k.open_faults name ∙ h.open_faults name; read_faults = λ name. k.read_faults name ∙ h.read_faults name }
