mod Summed
