mod Scanned
