-- The four lines, one after the other, are the summary.
use Rattle.std.proofs.Common.{◌≡◌, ℕ, List, [], ◌++◌, codes, ap, ◌∙◌}
use Rattle.std.specs.Fmt.{decimal}
use Rattle.sha2.specs.Sha256.{sha256}
use Rattle.work_gen.specs.Summary.{byte_count, hexadecimal, summary, told_line}

pub four-lines : (lines refused bytes : ℕ) (digest text t0 t1 t2 t3 t4 : List ℕ) → t0 ≡ [] → t1 ≡ t0 ++ told_line (codes "lines") (decimal lines)
    → t2 ≡ t1 ++ told_line (codes "refused") (decimal refused)
    → t3 ≡ t2 ++ told_line (codes "bytes") (decimal bytes) → t4 ≡ t3 ++ told_line (codes "sha256") (hexadecimal digest) → bytes ≡ byte_count text → digest ≡ sha256 text
    → t4 ≡ summary lines refused text
unfolding summary
four-lines lines refused bytes digest text t0 t1 t2 t3 t4 e0 e1 e2 e3 e4 counted held =
    let first = e1 ∙ ap (λ (t : List ℕ). t ++ told_line (codes "lines") (decimal lines)) e0 in
    let second = e2 ∙ ap (λ (t : List ℕ). t ++ told_line (codes "refused") (decimal refused)) first in
    let third = e3 ∙ ap (λ (n : ℕ). t2 ++ told_line (codes "bytes") (decimal n)) counted ∙ ap (λ (t : List ℕ). t ++ told_line (codes "bytes") (decimal (byte_count text))) second in
    e4 ∙ ap (λ (d : List ℕ). t3 ++ told_line (codes "sha256") (hexadecimal d)) held ∙ ap (λ (t : List ℕ). t ++ told_line (codes "sha256") (hexadecimal (sha256 text))) third
